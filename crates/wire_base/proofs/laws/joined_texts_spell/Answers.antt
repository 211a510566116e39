use Rattle.wire_base.proofs.JoinedLaws.{joined_texts_spell_lemma}
use Rattle.wire_base.proofs.laws.joined_texts_spell.Goals as goal

pub returns : goal.returns
returns c = joined_texts_spell_lemma
