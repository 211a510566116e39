use Rattle.wire_readings_c.proofs.totals.readings_totals_fault.Goals as goal

pub returns-clause-err : goal.returns-clause-err
returns-clause-err c = rw c.default_context-context.ensures at c.totals_fault.ensures.err
