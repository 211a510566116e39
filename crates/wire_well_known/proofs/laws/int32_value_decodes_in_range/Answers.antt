use Rattle.wire_well_known.specs.Int32ValueStays.{int32_value-stays}
use Rattle.wire_fields.specs.Stays.{decodes_in_range}
use Rattle.wire_well_known.proofs.laws.int32_value_decodes_in_range.Goals as goal

pub returns : goal.returns
returns c = decodes_in_range c.grounds.ensures (int32_value-stays c.grounds.ensures)
