use Rattle.wire_base.proofs.WalkLaws.{one_span_fault_lemma}
use Rattle.wire_base.proofs.laws.one_span_fault.Goals as goal

pub returns : goal.returns
returns c = one_span_fault_lemma
