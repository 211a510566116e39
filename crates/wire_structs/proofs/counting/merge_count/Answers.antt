use Rattle.std.proofs.lemmas.Result.{err_from_is_err_and}
use Rattle.wire_structs.proofs.CountedLists.{value_counted, no_place_to_count, no_value_to_count}
use Rattle.wire_structs.proofs.counting.merge_count.Goals as goal

pub returns-in_err-register_element_memory-clause-err :
    goal.returns-in_err-register_element_memory-clause-err
returns-in_err-register_element_memory-clause-err g c =
    let p = err_from_is_err_and c.from_residual.result c.from_residual.ensures.1 in
    rw p.1 (no_place_to_count g.row.PLACE g.S.StructScalar.scalar _ _ _ _ _
    c.in_err-register_element_memory.ensures.none_left)

pub returns-in_err-set-clause-err : goal.returns-in_err-set-clause-err
returns-in_err-set-clause-err g c =
    let r = c.from_residual-in_err-set in
    let p = err_from_is_err_and r.result r.ensures.1 in
    rw p.1 (no_value_to_count g.row.PLACE g.S.StructScalar.scalar _ _ _ _ _
    c.in_err-set.ensures.err)

pub returns-clause-ok : goal.returns-clause-ok
returns-clause-ok g c =
    value_counted g.row.PLACE g.S.StructScalar.scalar _ _ _ _ _ _ _ _ _
    c.in_ok-register_element_memory.ensures.ok c.in_ok-register_element_memory.ensures.taken
    c.saturating_add.ensures c.in_ok-set.ensures.ok
