use Rattle.wire_frames.proofs.InChunks.{bytes_behind}
use Rattle.wire_frames.proofs.laws.bytes_behind.Goals as goal

pub returns : goal.returns
returns c = bytes_behind
