use Rattle.std.proofs.lemmas.Result.{err_from_is_err_and}
use Rattle.wire_views.proofs.fixed.FixedInNumericViewKind.merge.Goals as goal

pub returns-in_err-held-in-InPlace-clause-err : goal.returns-in_err-held-in-InPlace-clause-err
returns-in_err-held-in-InPlace-clause-err g c =
    let p = err_from_is_err_and c.from_residual.result c.from_residual.ensures.1 in
    rw (p.1, p.2, c.in-InPlace.is) c.in_err-held-in-InPlace.ensures.err

pub returns-in-Listed-clause-err : goal.returns-in-Listed-clause-err
returns-in-Listed-clause-err g c = rw c.in-Listed.is c.merge.ensures.err
