use Rattle.wire_codec.proofs.Fitting.{read_bytes}
use Rattle.wire_samples.proofs.DecodedPersons.{default_in_range, folds_in_range}
use Rattle.wire_samples.proofs.laws.persons_stay_in_range.Goals as goal

pub returns : goal.returns
returns c = record {
  start = default_in_range;
  taken = λ l ending m z old new charge all h taken.
      let read = taken.read.fields.read in
      let parts = read_bytes _ old _ read all in
      folds_in_range taken.fields m z charge
      (c.spelled_are_fitting.ensures taken.fields read.text parts.0 read.spelled)
      (c.spelled_are_numbered.ensures taken.fields read.text read.spelled) h taken.folded;
}
