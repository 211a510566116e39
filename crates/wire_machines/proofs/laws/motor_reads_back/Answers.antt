use Rattle.wire_machines.specs.Motor.{motor-returned}
use Rattle.wire_fields.specs.Returned.{reads_back}
use Rattle.wire_machines.proofs.laws.motor_reads_back.Goals as goal

pub returns : goal.returns
returns c = reads_back (motor-returned c.grounds.ensures) c.text_decodes.ensures
