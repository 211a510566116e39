use Rattle.std.proofs.lemmas.Result.{err_from_is_err_and}
use Rattle.wire_structs.proofs.message.MessageStruct.merge_length_delimited.Goals as goal

pub returns-in_err-merge_delimited-clause-err : goal.returns-in_err-merge_delimited-clause-err
returns-in_err-merge_delimited-clause-err g c =
    let p = err_from_is_err_and c.from_residual-in_err-merge_delimited.result
    c.from_residual-in_err-merge_delimited.ensures.1 in
    rw p.1 (λ charge z new h.
    (rw (c.in_ok-descend.ensures.ok) at c.in_err-merge_delimited.ensures.err) charge z new h.taken)
