use Rattle.wire_base.proofs.VarintLaws.{one_varint_fault_lemma}
use Rattle.wire_base.proofs.laws.one_varint_fault.Goals as goal

pub returns : goal.returns
returns c = one_varint_fault_lemma
