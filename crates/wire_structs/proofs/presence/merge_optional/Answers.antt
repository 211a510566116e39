use Rattle.std.proofs.Common.{refl}
use Rattle.std.proofs.lemmas.Result.{err_from_is_err_and}
use Rattle.wire_fields.proofs.Scalars.{scalar_taken, no_scalar}
use Rattle.wire_fields.specs.Presence.{sets_some}
use Rattle.wire_structs.proofs.presence.merge_optional.Goals as goal

pub returns-clause-ok : goal.returns-clause-ok
returns-clause-ok g c = λ l.
    scalar_taken g.S.StructScalar.scalar (sets_some g.S.StructScalar.scalar) l _ _ _ _
    c.limits_add_up.ensures _ _ _ (λ p s. (refl, _, s, refl)) c.in_ok-set.ensures.ok

pub returns-in_err-set-clause-err : goal.returns-in_err-set-clause-err
returns-in_err-set-clause-err g c = λ l.
    let p = err_from_is_err_and c.from_residual.result c.from_residual.ensures.1 in
    rw p.1 (no_scalar g.S.StructScalar.scalar (sets_some g.S.StructScalar.scalar) l _ _ _ _
    (λ q charge z h. (h.1, h.2)) c.in_err-set.ensures.err)
