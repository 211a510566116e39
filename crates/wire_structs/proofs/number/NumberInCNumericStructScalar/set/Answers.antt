use Rattle.std.proofs.lemmas.Result.{err_from_is_err_and}
use Rattle.wire_structs.proofs.Reading.{no_numeric}
use Rattle.wire_structs.proofs.number.NumberInCNumericStructScalar.set.Goals as goal

pub returns-in_err-x-clause-err : goal.returns-in_err-x-clause-err
returns-in_err-x-clause-err g c =
    let p = err_from_is_err_and c.from_residual.result c.from_residual.ensures.1 in
    rw p.1 (no_numeric _ _ _ _ _ (rw c.form.ensures at c.in_err-x.ensures.err))
