use Rattle.wire_well_known.specs.Int64ValueStays.{int64_value-stays}
use Rattle.wire_fields.specs.Stays.{decodes_in_range}
use Rattle.wire_well_known.proofs.laws.int64_value_decodes_in_range.Goals as goal

pub returns : goal.returns
returns c = decodes_in_range c.grounds.ensures (int64_value-stays c.grounds.ensures)
