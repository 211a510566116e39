use Rattle.wire_base.proofs.FaultLaws.{one_payload_fault_lemma}
use Rattle.wire_base.proofs.laws.one_payload_fault.Goals as goal

pub returns : goal.returns
returns c = one_payload_fault_lemma
