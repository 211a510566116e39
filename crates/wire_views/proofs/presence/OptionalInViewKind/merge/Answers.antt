use Rattle.std.proofs.Common.{refl}
use Rattle.std.proofs.lemmas.Result.{err_from_is_err_and}
use Rattle.wire_fields.specs.Presence.{sets_some}
use Rattle.wire_fields.proofs.Scalars.{scalar_taken, no_scalar}
use Rattle.wire_views.proofs.presence.OptionalInViewKind.merge.Goals as goal

pub returns-clause-ok : goal.returns-clause-ok
returns-clause-ok g c =
    scalar_taken g.S.ViewScalar.scalar (sets_some g.S.ViewScalar.scalar) _ _ _ _ _
    c.records_in_order.ensures.limits _ _ _ (λ p s. (refl, _, s, refl)) c.in_ok-set.ensures.ok

pub returns-in_err-set-clause-err : goal.returns-in_err-set-clause-err
returns-in_err-set-clause-err g c =
    let p = err_from_is_err_and c.from_residual.result c.from_residual.ensures.1 in
    rw (p.1, p.2) (λ other. no_scalar g.S.ViewScalar.scalar (sets_some g.S.ViewScalar.scalar) _ _ _
    _ _
    (λ q charge z h. (h.1, h.2)) (c.in_err-set.ensures.err other))
