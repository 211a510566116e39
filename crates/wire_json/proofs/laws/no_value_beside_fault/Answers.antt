use Rattle.wire_json.proofs.Beside.{no_value_beside_fault_lemma}
use Rattle.wire_json.proofs.laws.no_value_beside_fault.Goals as goal

pub returns : goal.returns
returns c = no_value_beside_fault_lemma
