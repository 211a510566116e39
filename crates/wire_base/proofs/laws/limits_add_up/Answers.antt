use Rattle.wire_base.proofs.LimitsLaws.{limits_add_up_lemma}
use Rattle.wire_base.proofs.laws.limits_add_up.Goals as goal

pub returns : goal.returns
returns c = limits_add_up_lemma
