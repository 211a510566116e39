use Rattle.wire_report_structs_c.proofs.report.report_report_fault.Goals as goal

pub returns-clause-err : goal.returns-clause-err
returns-clause-err c = rw c.default_context-context.ensures at c.report_fault.ensures.err
