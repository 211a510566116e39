use Rattle.wire_frames.proofs.InChunks.{frame_moves_on}
use Rattle.wire_frames.proofs.laws.frame_moves_on.Goals as goal

pub returns : goal.returns
returns c = frame_moves_on
