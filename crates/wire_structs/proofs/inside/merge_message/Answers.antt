use Rattle.std.proofs.lemmas.Result.{on_err_weaker, on_ok_weaker}
use Rattle.wire_fields.proofs.Messages.{embedded_taken, no_embedded}
use Rattle.wire_structs.proofs.inside.merge_message.Goals as goal

pub returns-clause-ok : goal.returns-clause-ok
returns-clause-ok g c =
    on_ok_weaker c.merge_length_delimited.result (embedded_taken g.M.MessageStruct.takes
    c.whole_input.ensures c.levels_and_counts.ensures.levels _ _ _ _ _ _ _ _
    c.in_ok-check_wire_type.ensures.ok) c.merge_length_delimited.ensures.ok

pub returns-clause-err : goal.returns-clause-err
returns-clause-err g c =
    on_err_weaker c.merge_length_delimited.result (no_embedded
    g.M.MessageStruct.takes c.whole_input.ensures c.levels_and_counts.ensures.levels _ _ _ _ _)
    c.merge_length_delimited.ensures.err
