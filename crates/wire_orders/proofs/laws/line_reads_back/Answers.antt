use Rattle.wire_orders.specs.Line.{line-returned}
use Rattle.wire_fields.specs.Returned.{reads_back}
use Rattle.wire_orders.proofs.laws.line_reads_back.Goals as goal

pub returns : goal.returns
returns c = reads_back (line-returned c.grounds.ensures) c.text_decodes.ensures
