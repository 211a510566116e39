use Rattle.wire_base.proofs.UnknownFieldsLemmas.{AreFitting-kept, AreNumbered-kept}
use Rattle.wire_base.proofs.unknown_fields.UnknownFields.retain.Goals as goal

pub invariant_of-self : goal.invariant_of-self
invariant_of-self g c =
    let kept = c.retain.ensures.filtered in
    rw kept.4 (AreFitting-kept kept.0 c.self.inside.fields.items c.self.invariant)

pub returns-clause-numbered : goal.returns-clause-numbered
returns-clause-numbered g c =
    let kept = c.retain.ensures.filtered in
    λ h. rw kept.4 (AreNumbered-kept kept.0 c.self.inside.fields.items (rw c.self.view_is h))
