use Rattle.wire_base.proofs.TagLaws.{one_tag_lemma}
use Rattle.wire_base.proofs.laws.one_tag.Goals as goal

pub returns : goal.returns
returns c = one_tag_lemma
