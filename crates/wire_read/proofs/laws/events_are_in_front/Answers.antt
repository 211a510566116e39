use Rattle.wire_read.proofs.Fronts.{in_front}
use Rattle.wire_read.proofs.laws.events_are_in_front.Goals as goal

pub returns : goal.returns
returns c =
    in_front c.one_tag.ensures c.one_payload.ensures c.limits_add_up.ensures c.levels_add_up.ensures
