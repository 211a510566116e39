use Rattle.std.proofs.lemmas.Result.{err_from_is_err_and}
use Rattle.wire_fields.proofs.Messages.{each_taken, no_room, no_more}
use Rattle.wire_fields.specs.Messages.{length_prefixed}
use Rattle.wire_structs.specs.Counts.{count_more}
use Rattle.wire_structs.proofs.counting.merge_message_count.Goals as goal

pub returns-in_err-register_element_memory-clause-err :
    goal.returns-in_err-register_element_memory-clause-err
returns-in_err-register_element_memory-clause-err g c =
    let p = err_from_is_err_and c.from_residual.result c.from_residual.ensures.1 in
    rw p.1 (no_room g.row.PLACE length_prefixed g.M.MessageStruct.takes g.M.MessageStruct.default
    count_more c.limits_add_up.ensures _ _ _ _ g.M.MessageStruct.default _
    (λ i. g.M.MessageStruct.default) c.in_err-register_element_memory.ensures.none_left)

pub returns-in_err-merge_message-clause-err : goal.returns-in_err-merge_message-clause-err
returns-in_err-merge_message-clause-err g c =
    let r = c.from_residual-in_err-merge_message in
    let p = err_from_is_err_and r.result r.ensures.1 in
    rw p.1 (no_more g.row.PLACE length_prefixed g.M.MessageStruct.takes g.M.MessageStruct.default
    count_more c.limits_add_up.ensures _ _ _ _ _ _ c.zero-message.ensures.value _
    c.in_ok-register_element_memory.ensures.ok c.in_err-merge_message.ensures.err)

pub returns-clause-ok : goal.returns-clause-ok
returns-clause-ok g c =
    each_taken g.row.PLACE length_prefixed g.M.MessageStruct.takes g.M.MessageStruct.default
    count_more c.limits_add_up.ensures _ _ _ _ _ _ c.zero-message.ensures.value _ _ _ _ _
    c.in_ok-register_element_memory.ensures.ok c.in_ok-register_element_memory.ensures.taken
    c.saturating_add.ensures c.in_ok-merge_message.ensures.ok
