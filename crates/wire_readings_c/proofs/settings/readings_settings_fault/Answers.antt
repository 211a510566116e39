use Rattle.wire_readings_c.proofs.settings.readings_settings_fault.Goals as goal

pub returns-clause-err : goal.returns-clause-err
returns-clause-err c = rw c.default_context-context.ensures at c.settings_fault.ensures.err
