use Rattle.wire_base.proofs.WalkLaws.{one_walk_lemma}
use Rattle.wire_base.proofs.laws.one_walk.Goals as goal

pub returns : goal.returns
returns c = one_walk_lemma
