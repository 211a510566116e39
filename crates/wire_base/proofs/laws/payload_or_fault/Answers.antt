use Rattle.wire_base.proofs.PlainReader.{payload_or_fault_lemma}
use Rattle.wire_base.proofs.laws.payload_or_fault.Goals as goal

pub returns : goal.returns
returns c = payload_or_fault_lemma
