use Rattle.wire_readings_c.proofs.reading.readings_reading_read_within.Goals as goal

pub returns-clause-err : goal.returns-clause-err
returns-clause-err c = rw c.context_within-context.ensures at c.read_reading.ensures.err
