use Rattle.wire_readings_c.proofs.point.readings_point_fault_within.Goals as goal

pub returns-clause-err : goal.returns-clause-err
returns-clause-err c = rw c.context_within-context.ensures at c.point_fault.ensures.err
