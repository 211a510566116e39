use Rattle.wire_readings_c.proofs.point.readings_point_fault.Goals as goal

pub returns-clause-err : goal.returns-clause-err
returns-clause-err c = rw c.default_context-context.ensures at c.point_fault.ensures.err
