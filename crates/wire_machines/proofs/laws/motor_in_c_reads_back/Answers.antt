use Rattle.wire_machines.proofs.MotorInCShows.{motor-same}
use Rattle.wire_machines.specs.Motor.{motor-range}
use Rattle.wire_machines.specs.MotorInC.{motor-written}
use Rattle.wire_machines.proofs.laws.motor_in_c_reads_back.Goals as goal

pub returns : goal.returns
returns c l m fs holds fits =
    let v = motor-written m fs in (
      (motor-range.charge_of v, c.motor_reads_back.ensures l v holds fits),
      motor-same m fs,
    )
