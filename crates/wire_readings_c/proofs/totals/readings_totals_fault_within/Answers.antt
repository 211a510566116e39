use Rattle.wire_readings_c.proofs.totals.readings_totals_fault_within.Goals as goal

pub returns-clause-err : goal.returns-clause-err
returns-clause-err c = rw c.context_within-context.ensures at c.totals_fault.ensures.err
