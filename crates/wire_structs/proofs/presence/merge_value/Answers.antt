use Rattle.std.proofs.Common.{refl}
use Rattle.std.proofs.lemmas.Result.{on_err_weaker, on_ok_weaker}
use Rattle.wire_fields.proofs.Scalars.{scalar_taken, no_scalar}
use Rattle.wire_fields.specs.Presence.{sets}
use Rattle.wire_structs.proofs.presence.merge_value.Goals as goal

pub returns-clause-ok : goal.returns-clause-ok
returns-clause-ok g c = λ l.
    on_ok_weaker c.set.result (scalar_taken g.S.StructScalar.scalar (sets g.S.StructScalar.scalar) l
    _ _ _ _ c.limits_add_up.ensures _ _ _ (λ p s. (refl, s))) c.set.ensures.ok

pub returns-clause-err : goal.returns-clause-err
returns-clause-err g c = λ l.
    on_err_weaker c.set.result (no_scalar g.S.StructScalar.scalar (sets g.S.StructScalar.scalar) l
    _ _ _ _ (λ p charge z h. (z, h.1))) c.set.ensures.err
