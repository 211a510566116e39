use Rattle.wire_read.proofs.Fronts.{one_front}
use Rattle.wire_read.proofs.laws.one_longest_front.Goals as goal

pub returns : goal.returns
returns c =
    one_front c.one_tag.ensures c.one_payload.ensures c.limits_add_up.ensures c.levels_add_up.ensures
