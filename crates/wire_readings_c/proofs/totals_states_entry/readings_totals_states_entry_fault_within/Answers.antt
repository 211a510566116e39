use Rattle.wire_readings_c.proofs.totals_states_entry.readings_totals_states_entry_fault_within.Goals as goal

pub returns-clause-err : goal.returns-clause-err
returns-clause-err c = rw c.context_within-context.ensures at c.totals_states_entry_fault.ensures.err
