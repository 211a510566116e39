use Rattle.wire_base.proofs.VarintLaws.{no_spelling_is_shorter_lemma}
use Rattle.wire_base.proofs.laws.no_spelling_is_shorter.Goals as goal

pub returns : goal.returns
returns c = no_spelling_is_shorter_lemma
