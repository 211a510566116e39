use Rattle.wire_base.proofs.VarintLaws.{varint_or_fault_lemma}
use Rattle.wire_base.proofs.laws.varint_or_fault.Goals as goal

pub returns : goal.returns
returns c = varint_or_fault_lemma
