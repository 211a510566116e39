use Rattle.wire_machines_c.proofs.part.machines_part_fault.Goals as goal

pub returns-clause-err : goal.returns-clause-err
returns-clause-err c = rw c.default_context-context.ensures at c.part_fault.ensures.err
