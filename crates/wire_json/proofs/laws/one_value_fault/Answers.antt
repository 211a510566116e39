use Rattle.wire_json.proofs.OneFault.{one_value_fault_lemma}
use Rattle.wire_json.proofs.laws.one_value_fault.Goals as goal

pub returns : goal.returns
returns c = one_value_fault_lemma
