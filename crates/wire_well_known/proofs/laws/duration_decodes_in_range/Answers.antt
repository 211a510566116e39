use Rattle.wire_well_known.specs.DurationStays.{duration-stays}
use Rattle.wire_fields.specs.Stays.{decodes_in_range}
use Rattle.wire_well_known.proofs.laws.duration_decodes_in_range.Goals as goal

pub returns : goal.returns
returns c = decodes_in_range c.grounds.ensures (duration-stays c.grounds.ensures)
