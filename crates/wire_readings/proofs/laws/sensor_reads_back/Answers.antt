use Rattle.wire_readings.specs.Sensor.{sensor-returned}
use Rattle.wire_fields.specs.Returned.{reads_back}
use Rattle.wire_readings.proofs.laws.sensor_reads_back.Goals as goal

pub returns : goal.returns
returns c = reads_back (sensor-returned c.grounds.ensures) c.text_decodes.ensures
