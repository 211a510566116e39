use Rattle.std.proofs.lemmas.Result.{err_from_is_err_and}
use Rattle.wire_structs.proofs.Reading.{no_delimited_value}
use Rattle.wire_structs.proofs.text.BytesInCStructScalar.set.Goals as goal

pub returns-in_err-held-clause-err : goal.returns-in_err-held-clause-err
returns-in_err-held-clause-err c =
    let r = c.from_residual-in_err-held in
    let p = err_from_is_err_and r.result r.ensures.1 in
    rw p.1 (no_delimited_value c.one_delimited.ensures c.no_delimited_beside_fault.ensures _ _ _
    (λ b. Unit {0}) _ c.in_err-held.ensures.fault)
