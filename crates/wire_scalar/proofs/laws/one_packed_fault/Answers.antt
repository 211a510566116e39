use Rattle.wire_scalar.proofs.PackedLaws.{one_fault}
use Rattle.wire_scalar.proofs.laws.one_packed_fault.Goals as goal

pub returns : goal.returns
returns c =
    one_fault c.one_varint.ensures c.no_varint_beside_fault.ensures c.one_varint_fault.ensures
