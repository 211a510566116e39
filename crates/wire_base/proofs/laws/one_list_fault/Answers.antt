use Rattle.wire_base.proofs.FaultLaws.{one_list_fault_lemma}
use Rattle.wire_base.proofs.laws.one_list_fault.Goals as goal

pub returns : goal.returns
returns c = one_list_fault_lemma
