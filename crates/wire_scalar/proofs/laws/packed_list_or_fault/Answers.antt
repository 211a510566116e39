use Rattle.wire_scalar.proofs.PackedLaws.{list_or_fault}
use Rattle.wire_scalar.proofs.laws.packed_list_or_fault.Goals as goal

pub returns : goal.returns
returns c = list_or_fault c.varint_or_fault.ensures
