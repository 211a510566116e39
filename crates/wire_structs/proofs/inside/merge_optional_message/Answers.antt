use Rattle.std.proofs.Common.{refl}
use Rattle.std.proofs.lemmas.Result.{err_from_is_err_and}
use Rattle.wire_fields.proofs.Messages.{once_taken, no_once}
use Rattle.wire_fields.specs.Messages.{length_prefixed}
use Rattle.wire_structs.proofs.inside.merge_optional_message.Goals as goal

pub returns-in_err-merge_message-clause-err : goal.returns-in_err-merge_message-clause-err
returns-in_err-merge_message-clause-err g c =
    let p = err_from_is_err_and c.from_residual.result c.from_residual.ensures.1 in
    rw p.1 (no_once length_prefixed g.M.MessageStruct.takes g.M.MessageStruct.default _ _ _ _ _ _
    c.begin.ensures c.in_err-merge_message.ensures.err)

pub returns-clause-ok : goal.returns-clause-ok
returns-clause-ok g c =
    once_taken length_prefixed g.M.MessageStruct.takes g.M.MessageStruct.default _ _ _ _ _ _
    c.begin.ensures _ _ _ _ refl c.in_ok-merge_message.ensures.ok
