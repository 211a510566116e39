use Rattle.wire_scalar.proofs.PackedLaws.{one_list}
use Rattle.wire_scalar.proofs.laws.one_packed_list.Goals as goal

pub returns : goal.returns
returns c = one_list c.one_varint.ensures
