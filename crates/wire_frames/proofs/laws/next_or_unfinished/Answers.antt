use Rattle.wire_frames.proofs.OneNext.{next_or_unfinished}
use Rattle.wire_frames.proofs.laws.next_or_unfinished.Goals as goal

pub returns : goal.returns
returns c = next_or_unfinished c.varint_or_fault.ensures
