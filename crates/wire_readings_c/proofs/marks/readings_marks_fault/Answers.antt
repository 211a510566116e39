use Rattle.wire_readings_c.proofs.marks.readings_marks_fault.Goals as goal

pub returns-clause-err : goal.returns-clause-err
returns-clause-err c = rw c.default_context-context.ensures at c.marks_fault.ensures.err
