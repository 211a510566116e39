use Rattle.std.proofs.lemmas.Result.{err_from_is_err_and}
use Rattle.wire_structs.proofs.Reading.{no_numeric}
use Rattle.wire_structs.proofs.number.DoubleInCStructScalar.set.Goals as goal

pub returns-in_err-held-clause-err : goal.returns-in_err-held-clause-err
returns-in_err-held-clause-err c =
    let p = err_from_is_err_and c.from_residual.result c.from_residual.ensures.1 in
    rw p.1 (no_numeric _ _ _ _ _ c.in_err-held.ensures.err)
