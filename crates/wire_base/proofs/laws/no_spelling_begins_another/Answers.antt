use Rattle.wire_base.proofs.VarintLaws.{no_spelling_begins_another_lemma}
use Rattle.wire_base.proofs.laws.no_spelling_begins_another.Goals as goal

pub returns : goal.returns
returns c = no_spelling_begins_another_lemma
