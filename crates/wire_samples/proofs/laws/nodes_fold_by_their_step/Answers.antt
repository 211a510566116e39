use Rattle.wire_samples.proofs.NodeLists.{to_folds, from_folds}
use Rattle.wire_samples.proofs.laws.nodes_fold_by_their_step.Goals as goal

pub returns : goal.returns
returns c = λ m fs c' z. (λ h. to_folds h, λ h. from_folds fs h)
