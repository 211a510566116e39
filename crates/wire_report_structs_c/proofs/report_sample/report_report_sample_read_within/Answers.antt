use Rattle.wire_report_structs_c.proofs.report_sample.report_report_sample_read_within.Goals as goal

pub returns-clause-err : goal.returns-clause-err
returns-clause-err c = rw c.context_within-context.ensures at c.read_report_sample.ensures.err
