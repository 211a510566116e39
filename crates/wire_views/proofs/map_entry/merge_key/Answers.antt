use Rattle.std.proofs.Common.{refl}
use Rattle.std.proofs.lemmas.Result.{IfErr-weaker, on_ok_weaker}
use Rattle.wire_fields.specs.Presence.{sets}
use Rattle.wire_fields.proofs.Scalars.{scalar_taken, no_scalar}
use Rattle.wire_views.proofs.map_entry.merge_key.Goals as goal

pub returns-clause-ok : goal.returns-clause-ok
returns-clause-ok g c =
    on_ok_weaker c.set.result (scalar_taken g.K.MapKey.scalar (sets g.K.MapKey.scalar) _ _
    _ _ _
    c.records_in_order.ensures.limits _ _ _ (λ p s. (refl, s))) c.set.ensures.ok

pub returns-clause-err : goal.returns-clause-err
returns-clause-err g c =
    IfErr-weaker c.set.result _ _ (λ e none other. no_scalar g.K.MapKey.scalar
    (sets g.K.MapKey.scalar) _ _ _ _ _ (λ p charge z h. (z, h.1)) (none other))
    c.set.ensures.err
