use Rattle.wire_report_structs_c.proofs.report_labels_entry.report_report_labels_entry_fault.Goals as goal

pub returns-clause-err : goal.returns-clause-err
returns-clause-err c = rw c.default_context-context.ensures at c.report_labels_entry_fault.ensures.err
