use Rattle.std.proofs.lemmas.Result.{err_from_is_err_and}
use Rattle.wire_fields.proofs.scalar.NumericScalar.set.Goals as goal

pub returns-in_err-x-clause-err : goal.returns-in_err-x-clause-err
returns-in_err-x-clause-err g c =
    let p = err_from_is_err_and c.from_residual.result c.from_residual.ensures.1 in
    rw (p.1, p.2) (λ other v new h. c.in_err-x.ensures.err h.sets.number new
    (record { payload = h.payload; has = rw c.form.ensures h.sets.has; read = h.read }))
