use Rattle.wire_base.proofs.LimitsLaws.{counts_fall_lemma}
use Rattle.wire_base.proofs.laws.counts_fall.Goals as goal

pub returns : goal.returns
returns c = counts_fall_lemma
