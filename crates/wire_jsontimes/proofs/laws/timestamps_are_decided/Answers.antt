use Rattle.wire_jsontimes.proofs.TimestampBack.{timestamp_decided}
use Rattle.wire_jsontimes.proofs.laws.timestamps_are_decided.Goals as goal

pub returns : goal.returns
returns c = timestamp_decided
