use Rattle.std.proofs.lemmas.Result.{err_from_is_err_and}
use Rattle.wire_structs.proofs.Reading.{no_string}
use Rattle.wire_structs.proofs.text.TextInCStructScalar.set.Goals as goal

pub returns-in_err-text-clause-err : goal.returns-in_err-text-clause-err
returns-in_err-text-clause-err c =
    let r = c.from_residual-in_err-text in
    let p = err_from_is_err_and r.result r.ensures.1 in
    rw p.1 (no_string c.one_delimited.ensures c.no_delimited_beside_fault.ensures _ _ _ _
    c.in_err-text.ensures.fault)
