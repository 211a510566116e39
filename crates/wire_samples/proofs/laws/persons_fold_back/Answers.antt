use Rattle.wire_samples.proofs.PersonFolds.{person_folds, person_fitting, person_numbered}
use Rattle.wire_samples.proofs.laws.persons_fold_back.Goals as goal

pub returns : goal.returns
returns c = λ m h small. record {
  fitting = person_fitting c.joined_records_add_up.ensures c.fields_are_plain.ensures m h small;
  numbered = person_numbered c.fields_are_plain.ensures m h;
  folded = person_folds c.charges_add_up.ensures c.shortest_reads_back.ensures
      c.values_read_back.ensures.int32 c.fields_are_plain.ensures m h;
}
