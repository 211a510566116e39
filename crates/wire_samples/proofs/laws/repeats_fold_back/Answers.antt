use Rattle.wire_samples.proofs.RepeatFolds.{repeat_folds, repeat_fitting, repeat_numbered}
use Rattle.wire_samples.proofs.laws.repeats_fold_back.Goals as goal

pub returns : goal.returns
returns c = λ m fits. record {
  fitting = repeat_fitting m.times m.extra;
  numbered = repeat_numbered m.times m.extra;
  folded = repeat_folds c.charges_add_up.ensures m.times m.extra fits;
}
