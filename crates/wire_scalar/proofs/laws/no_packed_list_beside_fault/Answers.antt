use Rattle.wire_scalar.proofs.PackedLaws.{no_list_beside_fault}
use Rattle.wire_scalar.proofs.laws.no_packed_list_beside_fault.Goals as goal

pub returns : goal.returns
returns c = no_list_beside_fault c.one_varint.ensures c.no_varint_beside_fault.ensures
