use Rattle.wire_base.proofs.FaultLaws.{no_list_beside_fault_lemma}
use Rattle.wire_base.proofs.laws.no_list_beside_fault.Goals as goal

pub returns : goal.returns
returns c = no_list_beside_fault_lemma
