use Rattle.wire_json.proofs.OneFault.{one_text_fault_lemma}
use Rattle.wire_json.proofs.laws.one_text_fault.Goals as goal

pub returns : goal.returns
returns c = one_text_fault_lemma
