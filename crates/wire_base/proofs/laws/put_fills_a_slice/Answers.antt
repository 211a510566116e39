use Rattle.wire_base.proofs.Rooms.{put_fills_a_slice}
use Rattle.wire_base.proofs.laws.put_fills_a_slice.Goals as goal

pub returns : goal.returns
returns c = put_fills_a_slice
