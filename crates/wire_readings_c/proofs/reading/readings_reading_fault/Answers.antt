use Rattle.wire_readings_c.proofs.reading.readings_reading_fault.Goals as goal

pub returns-clause-err : goal.returns-clause-err
returns-clause-err c = rw c.default_context-context.ensures at c.reading_fault.ensures.err
