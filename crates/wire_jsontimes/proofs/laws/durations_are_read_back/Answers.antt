use Rattle.wire_jsontimes.proofs.DurationBack.{duration_read_back}
use Rattle.wire_jsontimes.proofs.laws.durations_are_read_back.Goals as goal

pub returns : goal.returns
returns c = duration_read_back
