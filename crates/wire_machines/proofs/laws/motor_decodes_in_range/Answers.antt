use Rattle.wire_machines.specs.MotorStays.{motor-stays}
use Rattle.wire_fields.specs.Stays.{decodes_in_range}
use Rattle.wire_machines.proofs.laws.motor_decodes_in_range.Goals as goal

pub returns : goal.returns
returns c = decodes_in_range c.grounds.ensures (motor-stays c.grounds.ensures)
