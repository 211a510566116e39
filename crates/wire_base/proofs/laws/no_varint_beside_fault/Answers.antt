use Rattle.wire_base.proofs.VarintLaws.{no_varint_beside_fault_lemma}
use Rattle.wire_base.proofs.laws.no_varint_beside_fault.Goals as goal

pub returns : goal.returns
returns c = no_varint_beside_fault_lemma
