use Rattle.wire_base.proofs.TextLaws.{no_text_is_shorter_lemma}
use Rattle.wire_base.proofs.laws.no_text_is_shorter.Goals as goal

pub returns : goal.returns
returns c = no_text_is_shorter_lemma
