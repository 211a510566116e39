use Rattle.wire_jsontimes.proofs.TimestampBack.{timestamp_read_back}
use Rattle.wire_jsontimes.proofs.laws.timestamps_are_read_back.Goals as goal

pub returns : goal.returns
returns c = timestamp_read_back
