use Rattle.wire_base.proofs.TagLaws.{one_tag_fault_lemma}
use Rattle.wire_base.proofs.laws.one_tag_fault.Goals as goal

pub returns : goal.returns
returns c = one_tag_fault_lemma
