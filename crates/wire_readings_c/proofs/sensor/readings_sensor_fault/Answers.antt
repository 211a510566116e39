use Rattle.wire_readings_c.proofs.sensor.readings_sensor_fault.Goals as goal

pub returns-clause-err : goal.returns-clause-err
returns-clause-err c = rw c.default_context-context.ensures at c.sensor_fault.ensures.err
