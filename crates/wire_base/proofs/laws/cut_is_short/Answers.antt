use Rattle.wire_base.proofs.Cuts.{cut_is_short_lemma}
use Rattle.wire_base.proofs.laws.cut_is_short.Goals as goal

pub returns : goal.returns
returns c = cut_is_short_lemma
