use Rattle.wire_base.proofs.TextLaws.{no_other_text_is_as_short_lemma}
use Rattle.wire_base.proofs.laws.no_other_text_is_as_short.Goals as goal

pub returns : goal.returns
returns c = no_other_text_is_as_short_lemma
