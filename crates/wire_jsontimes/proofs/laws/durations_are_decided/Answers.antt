use Rattle.wire_jsontimes.proofs.DurationBack.{duration_decided}
use Rattle.wire_jsontimes.proofs.laws.durations_are_decided.Goals as goal

pub returns : goal.returns
returns c = duration_decided
