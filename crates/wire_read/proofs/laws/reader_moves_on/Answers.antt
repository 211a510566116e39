use Rattle.wire_read.proofs.Walks.{shorter}
use Rattle.wire_read.proofs.laws.reader_moves_on.Goals as goal

pub returns : goal.returns
returns c = shorter
