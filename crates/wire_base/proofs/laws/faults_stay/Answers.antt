use Rattle.wire_base.proofs.Cuts.{faults_stay_lemma}
use Rattle.wire_base.proofs.laws.faults_stay.Goals as goal

pub returns : goal.returns
returns c = faults_stay_lemma
