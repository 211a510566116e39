use Rattle.wire_structs.proofs.UnknownReads.{ended_next, no_next_fault, opened}
use Rattle.wire_structs.proofs.unknown_record.next_in_group.Goals as goal

pub returns-in-Ok-clause-end : goal.returns-in-Ok-clause-end
returns-in-Ok-clause-end c = ended_next c.in-Ok.next _ _ _ c.in-Ok.ensures.end

pub returns-in-Err-clause-end : goal.returns-in-Err-clause-end
returns-in-Err-clause-end c = λ fs rest h.
    absurd (no_next_fault _ fs _ rest _ (opened _ _ fs _ rest h) c.in-Err.ensures.fault)
