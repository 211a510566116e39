use Rattle.wire_meter.specs.MeterStays.{meter-stays}
use Rattle.wire_fields.specs.Stays.{decodes_in_range}
use Rattle.wire_meter.proofs.laws.meter_decodes_in_range.Goals as goal

pub returns : goal.returns
returns c = decodes_in_range c.grounds.ensures (meter-stays c.grounds.ensures)
