use Rattle.wire_frames.proofs.OneNext.{one_frame}
use Rattle.wire_frames.proofs.laws.one_frame.Goals as goal

pub returns : goal.returns
returns c = one_frame c.one_varint.ensures
