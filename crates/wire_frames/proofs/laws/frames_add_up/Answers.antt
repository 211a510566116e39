use Rattle.wire_frames.proofs.InChunks.{frames_add_up}
use Rattle.wire_frames.proofs.laws.frames_add_up.Goals as goal

pub returns : goal.returns
returns c = frames_add_up
