use Rattle.wire_well_known.specs.TimestampStays.{timestamp-stays}
use Rattle.wire_fields.specs.Stays.{decodes_in_range}
use Rattle.wire_well_known.proofs.laws.timestamp_decodes_in_range.Goals as goal

pub returns : goal.returns
returns c = decodes_in_range c.grounds.ensures (timestamp-stays c.grounds.ensures)
