use Rattle.wire_structs.proofs.FirstRefused.{refused_back}
use Rattle.wire_structs.proofs.Shown.{decodes_back, not_decoded_back}
use Rattle.wire_readings.proofs.SensorInCShows.{sensor-shows}
use Rattle.wire_readings.specs.Sensor.{sensor-shape}
use Rattle.wire_readings.specs.SensorInC.{sensor-seen, sensor-struct}
use Rattle.wire_readings.proofs.sensor_in_c.sensor_fault.Goals as goal

pub returns-clause-ok : goal.returns-clause-ok
returns-clause-ok c = λ is.
    let value = decodes_back sensor-seen sensor-shape.takes sensor-struct.takes
    sensor-shows.steps _ sensor-shape.default _ _ (c.refused_status.ensures.ok is).1 in
    (value.0, value.1)

pub returns-clause-err : goal.returns-clause-err
returns-clause-err c = λ is.
    not_decoded_back sensor-seen sensor-shape.takes sensor-struct.takes
    sensor-shows.steps _ sensor-shape.default _ (c.refused_status.ensures.err is)

pub returns-clause-place : goal.returns-clause-place
returns-clause-place c = λ is.
    refused_back sensor-seen sensor-shape.takes sensor-struct.takes
    sensor-shows.steps _ sensor-shape.default _ _ (c.refused_status.ensures.refused is)
