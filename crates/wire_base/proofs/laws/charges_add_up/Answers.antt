use Rattle.wire_base.proofs.LimitsLaws.{charges_add_up_lemma}
use Rattle.wire_base.proofs.laws.charges_add_up.Goals as goal

pub returns : goal.returns
returns c = charges_add_up_lemma
