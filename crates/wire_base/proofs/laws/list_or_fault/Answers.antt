use Rattle.wire_base.proofs.PlainReader.{list_or_fault_lemma}
use Rattle.wire_base.proofs.laws.list_or_fault.Goals as goal

pub returns : goal.returns
returns c = list_or_fault_lemma
