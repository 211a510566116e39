use Rattle.wire_well_known.specs.DoubleValueStays.{double_value-stays}
use Rattle.wire_fields.specs.Stays.{decodes_in_range}
use Rattle.wire_well_known.proofs.laws.double_value_decodes_in_range.Goals as goal

pub returns : goal.returns
returns c = decodes_in_range c.grounds.ensures (double_value-stays c.grounds.ensures)
