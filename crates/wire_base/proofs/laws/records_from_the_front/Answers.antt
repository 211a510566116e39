use Rattle.wire_base.proofs.FromFront.{records_from_the_front_lemma}
use Rattle.wire_base.proofs.laws.records_from_the_front.Goals as goal

pub returns : goal.returns
returns c = records_from_the_front_lemma
