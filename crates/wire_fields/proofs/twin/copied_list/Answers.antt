use Rattle.wire_fields.specs.Twins.{if_ok, same_list}
use Rattle.wire_fields.proofs.twin.copied_list.Goals as goal

pub returns : goal.returns
returns g c =
    if_ok _ (λ copy h. same_list g.T.Clone.is_clone g.T.Twin.seen g.met.T.Twin.same _ _ h.0) c.clone.result
    c.clone.ensures.cases
