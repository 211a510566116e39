use Rattle.wire_readings_c.proofs.log.readings_log_fault.Goals as goal

pub returns-clause-err : goal.returns-clause-err
returns-clause-err c = rw c.default_context-context.ensures at c.log_fault.ensures.err
