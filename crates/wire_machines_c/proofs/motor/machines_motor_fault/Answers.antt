use Rattle.wire_machines_c.proofs.motor.machines_motor_fault.Goals as goal

pub returns-clause-err : goal.returns-clause-err
returns-clause-err c = rw c.default_context-context.ensures at c.motor_fault.ensures.err
