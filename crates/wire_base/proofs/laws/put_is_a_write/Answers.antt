use Rattle.wire_base.proofs.Sinks.{put_is_a_write}
use Rattle.wire_base.proofs.laws.put_is_a_write.Goals as goal

pub returns : goal.returns
returns c = put_is_a_write
