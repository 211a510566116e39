use Rattle.wire_readings_c.proofs.plan.readings_plan_fault.Goals as goal

pub returns-clause-err : goal.returns-clause-err
returns-clause-err c = rw c.default_context-context.ensures at c.plan_fault.ensures.err
