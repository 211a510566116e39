use Rattle.wire_report_structs_c.proofs.report_last_entry.report_report_last_entry_fault.Goals as goal

pub returns-clause-err : goal.returns-clause-err
returns-clause-err c = rw c.default_context-context.ensures at c.report_last_entry_fault.ensures.err
