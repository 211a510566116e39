use Rattle.wire_base.proofs.TagLaws.{no_tag_beside_fault_lemma}
use Rattle.wire_base.proofs.laws.no_tag_beside_fault.Goals as goal

pub returns : goal.returns
returns c = no_tag_beside_fault_lemma
