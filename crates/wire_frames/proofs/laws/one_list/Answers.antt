use Rattle.wire_frames.proofs.InChunks.{one_list}
use Rattle.wire_frames.proofs.laws.one_list.Goals as goal

pub returns : goal.returns
returns c = one_list c.one_frame.ensures
