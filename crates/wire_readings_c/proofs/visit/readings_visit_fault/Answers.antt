use Rattle.wire_readings_c.proofs.visit.readings_visit_fault.Goals as goal

pub returns-clause-err : goal.returns-clause-err
returns-clause-err c = rw c.default_context-context.ensures at c.visit_fault.ensures.err
