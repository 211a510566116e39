use Rattle.wire_frames.proofs.InChunks.{written_is_read}
use Rattle.wire_frames.proofs.laws.written_is_read.Goals as goal

pub returns : goal.returns
returns c = written_is_read c.delimited_reads_back.ensures
