use Rattle.wire_structs.proofs.Shown.{decodes_back, not_decoded_back}
use Rattle.wire_machines.proofs.MotorInCShows.{motor-shows}
use Rattle.wire_machines.specs.Motor.{motor-shape}
use Rattle.wire_machines.specs.MotorInC.{motor-seen, motor-struct}
use Rattle.wire_machines.proofs.motor_in_c.read_motor.Goals as goal

pub returns-clause-ok : goal.returns-clause-ok
returns-clause-ok c = λ is.
    decodes_back motor-seen motor-shape.takes motor-struct.takes
    motor-shows.steps _ motor-shape.default _ _ (c.read_status.ensures.ok is)

pub returns-clause-err : goal.returns-clause-err
returns-clause-err c = λ is.
    not_decoded_back motor-seen motor-shape.takes motor-struct.takes
    motor-shows.steps _ motor-shape.default _ (c.read_status.ensures.err is)
