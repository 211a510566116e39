use Rattle.wire_kinds.specs.Widths.{widths-returned}
use Rattle.wire_fields.specs.Returned.{reads_back}
use Rattle.wire_kinds.proofs.laws.widths_reads_back.Goals as goal

pub returns : goal.returns
returns c = reads_back (widths-returned c.grounds.ensures) c.text_decodes.ensures
