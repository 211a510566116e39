use Rattle.wire_base.proofs.TextLaws.{text_spells_one_list_lemma}
use Rattle.wire_base.proofs.laws.text_spells_one_list.Goals as goal

pub returns : goal.returns
returns c = text_spells_one_list_lemma
