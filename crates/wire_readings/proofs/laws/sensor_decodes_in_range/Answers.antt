use Rattle.wire_readings.specs.SensorStays.{sensor-stays}
use Rattle.wire_fields.specs.Stays.{decodes_in_range}
use Rattle.wire_readings.proofs.laws.sensor_decodes_in_range.Goals as goal

pub returns : goal.returns
returns c = decodes_in_range c.grounds.ensures (sensor-stays c.grounds.ensures)
