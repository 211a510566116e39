use Rattle.wire_kinds.specs.MaybeWidths.{maybe_widths-returned}
use Rattle.wire_fields.specs.Returned.{reads_back}
use Rattle.wire_kinds.proofs.laws.maybe_widths_reads_back.Goals as goal

pub returns : goal.returns
returns c = reads_back (maybe_widths-returned c.grounds.ensures) c.text_decodes.ensures
