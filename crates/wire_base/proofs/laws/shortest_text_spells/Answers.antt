use Rattle.wire_base.proofs.TextLaws.{shortest_text_spells_lemma}
use Rattle.wire_base.proofs.laws.shortest_text_spells.Goals as goal

pub returns : goal.returns
returns c = shortest_text_spells_lemma
