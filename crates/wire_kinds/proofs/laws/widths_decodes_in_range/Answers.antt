use Rattle.wire_kinds.specs.WidthsStays.{widths-stays}
use Rattle.wire_fields.specs.Stays.{decodes_in_range}
use Rattle.wire_kinds.proofs.laws.widths_decodes_in_range.Goals as goal

pub returns : goal.returns
returns c = decodes_in_range c.grounds.ensures (widths-stays c.grounds.ensures)
