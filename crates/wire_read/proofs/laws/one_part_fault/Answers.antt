use Rattle.wire_read.proofs.OnePart.{one_part}
use Rattle.wire_read.proofs.laws.one_part_fault.Goals as goal

pub returns : goal.returns
returns c =
    one_part c.one_varint.ensures c.no_varint_beside_fault.ensures c.one_varint_fault.ensures
    c.one_tag.ensures c.no_tag_beside_fault.ensures c.one_tag_fault.ensures
