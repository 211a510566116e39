use Rattle.wire_base.proofs.LimitsLaws.{levels_add_up_lemma}
use Rattle.wire_base.proofs.laws.levels_add_up.Goals as goal

pub returns : goal.returns
returns c = levels_add_up_lemma
