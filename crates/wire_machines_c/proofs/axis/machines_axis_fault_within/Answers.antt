use Rattle.wire_machines_c.proofs.axis.machines_axis_fault_within.Goals as goal

pub returns-clause-err : goal.returns-clause-err
returns-clause-err c = rw c.context_within-context.ensures at c.axis_fault.ensures.err
