use Rattle.wire_fields.specs.Twins.{if_ok, same_list, same_entry}
use Rattle.wire_fields.proofs.twin.copied_map.Goals as goal

pub returns : goal.returns
returns g c =
    if_ok _ (λ copy h. same_list (λ p q. g.K.Clone.is_clone p.0 q.0 × g.V.Clone.is_clone p.1 q.1)
    (λ e. (g.K.Twin.seen e.0, g.V.Twin.seen e.1)) (same_entry _ _ _ _ g.met.K.Twin.same g.met.V.Twin.same) _ _ h)
    c.clone.result c.clone.ensures.cases
