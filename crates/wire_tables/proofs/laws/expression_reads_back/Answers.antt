use Rattle.wire_tables.specs.Expression.{expression-returned}
use Rattle.wire_fields.specs.Returned.{reads_back}
use Rattle.wire_tables.proofs.laws.expression_reads_back.Goals as goal

pub returns : goal.returns
returns c = reads_back (expression-returned c.grounds.ensures) c.text_decodes.ensures
