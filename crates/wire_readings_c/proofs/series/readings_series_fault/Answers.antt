use Rattle.wire_readings_c.proofs.series.readings_series_fault.Goals as goal

pub returns-clause-err : goal.returns-clause-err
returns-clause-err c = rw c.default_context-context.ensures at c.series_fault.ensures.err
