use Rattle.wire_readings.proofs.SensorInCShows.{sensor-same}
use Rattle.wire_readings.specs.Sensor.{sensor-range}
use Rattle.wire_readings.specs.SensorInC.{sensor-written}
use Rattle.wire_readings.proofs.laws.sensor_in_c_reads_back.Goals as goal

pub returns : goal.returns
returns c l m fs holds fits =
    let v = sensor-written m fs in (
      (sensor-range.charge_of v, c.sensor_reads_back.ensures l v holds fits),
      sensor-same m fs,
    )
