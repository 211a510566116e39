use Rattle.wire_base.proofs.TagLaws.{tag_or_fault_lemma}
use Rattle.wire_base.proofs.laws.tag_or_fault.Goals as goal

pub returns : goal.returns
returns c = tag_or_fault_lemma
