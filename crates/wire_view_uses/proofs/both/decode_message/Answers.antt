use Rattle.std.proofs.lemmas.Result.{err_from_is_err_and}
use Rattle.wire_view_uses.proofs.both.decode_message.Goals as goal

pub returns-in_err-merge-clause-err : goal.returns-in_err-merge-clause-err
returns-in_err-merge-clause-err c =
    let p = err_from_is_err_and c.from_residual.result c.from_residual.ensures.1 in
    rw (p.1, p.2) (rw c.default_value-message.ensures at c.in_err-merge.ensures.err)
