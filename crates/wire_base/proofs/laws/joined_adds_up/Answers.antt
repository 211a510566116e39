use Rattle.wire_base.proofs.JoinedLaws.{joined_adds_up_lemma}
use Rattle.wire_base.proofs.laws.joined_adds_up.Goals as goal

pub returns : goal.returns
returns c = joined_adds_up_lemma
