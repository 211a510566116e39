use Rattle.wire_base.proofs.TagLaws.{no_tag_text_is_shorter_lemma}
use Rattle.wire_base.proofs.laws.no_tag_text_is_shorter.Goals as goal

pub returns : goal.returns
returns c = no_tag_text_is_shorter_lemma
