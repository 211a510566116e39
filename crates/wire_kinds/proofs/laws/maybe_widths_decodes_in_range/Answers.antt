use Rattle.wire_kinds.specs.MaybeWidthsStays.{maybe_widths-stays}
use Rattle.wire_fields.specs.Stays.{decodes_in_range}
use Rattle.wire_kinds.proofs.laws.maybe_widths_decodes_in_range.Goals as goal

pub returns : goal.returns
returns c = decodes_in_range c.grounds.ensures (maybe_widths-stays c.grounds.ensures)
