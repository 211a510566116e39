use Rattle.wire_frames.proofs.OneNext.{unfinished_has_no_next}
use Rattle.wire_frames.proofs.laws.unfinished_has_no_next.Goals as goal

pub returns : goal.returns
returns c =
    unfinished_has_no_next c.one_varint.ensures c.no_varint_beside_fault.ensures
    c.one_varint_fault.ensures
