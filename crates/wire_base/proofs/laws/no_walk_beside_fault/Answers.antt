use Rattle.wire_base.proofs.WalkLaws.{no_walk_beside_fault_lemma}
use Rattle.wire_base.proofs.laws.no_walk_beside_fault.Goals as goal

pub returns : goal.returns
returns c = no_walk_beside_fault_lemma
