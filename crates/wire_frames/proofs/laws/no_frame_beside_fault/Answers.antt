use Rattle.wire_frames.proofs.OneNext.{no_frame_beside_fault}
use Rattle.wire_frames.proofs.laws.no_frame_beside_fault.Goals as goal

pub returns : goal.returns
returns c = no_frame_beside_fault c.one_varint.ensures c.no_varint_beside_fault.ensures
