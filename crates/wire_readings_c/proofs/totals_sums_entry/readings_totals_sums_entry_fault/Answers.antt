use Rattle.wire_readings_c.proofs.totals_sums_entry.readings_totals_sums_entry_fault.Goals as goal

pub returns-clause-err : goal.returns-clause-err
returns-clause-err c = rw c.default_context-context.ensures at c.totals_sums_entry_fault.ensures.err
