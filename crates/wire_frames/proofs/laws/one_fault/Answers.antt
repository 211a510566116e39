use Rattle.wire_frames.proofs.OneNext.{one_fault}
use Rattle.wire_frames.proofs.laws.one_fault.Goals as goal

pub returns : goal.returns
returns c = one_fault c.one_varint.ensures c.no_varint_beside_fault.ensures
