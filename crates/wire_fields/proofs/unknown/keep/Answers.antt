use Rattle.std.proofs.lemmas.Result.{err_from_is_err_and}
use Rattle.wire_fields.proofs.Keeping.{not_kept}
use Rattle.wire_fields.proofs.unknown.keep.Goals as goal

pub returns-in_err-field-clause-err : goal.returns-in_err-field-clause-err
returns-in_err-field-clause-err g c =
    let p = err_from_is_err_and c.from_residual.result c.from_residual.ensures.1 in
    rw (p.1, p.2) (λ other. not_kept c.no_payload_beside_fault.ensures _ _ _ _ _ _
    c.in_err-field.ensures.fault other)
