use Rattle.wire_kinds.specs.Wide.{wide-returned}
use Rattle.wire_fields.specs.Returned.{reads_back}
use Rattle.wire_kinds.proofs.laws.wide_reads_back.Goals as goal

pub returns : goal.returns
returns c = reads_back (wide-returned c.grounds.ensures) c.text_decodes.ensures
