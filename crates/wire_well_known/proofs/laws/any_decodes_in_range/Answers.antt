use Rattle.wire_well_known.specs.AnyStays.{any-stays}
use Rattle.wire_fields.specs.Stays.{decodes_in_range}
use Rattle.wire_well_known.proofs.laws.any_decodes_in_range.Goals as goal

pub returns : goal.returns
returns c = decodes_in_range c.grounds.ensures (any-stays c.grounds.ensures)
