use Rattle.wire_fields.specs.Twins.{if_ok}
use Rattle.wire_fields.proofs.twin.copied.Goals as goal

pub returns : goal.returns
returns g c = if_ok _ (λ copy h. g.met.T.Twin.same _ copy h) c.clone.result c.clone.ensures.cases
