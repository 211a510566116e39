use Rattle.wire_codec.proofs.Fitting.{read_bytes}
use Rattle.wire_fields.specs.Sound.{spelled_are_sound}
use Rattle.wire_samples.proofs.DecodedNodes.{default_in_range, folds_in_range}
use Rattle.wire_samples.proofs.NodeLists.{from_folds}
use Rattle.wire_samples.proofs.laws.nodes_stay_in_range.Goals as goal

pub returns : goal.returns
returns c = record {
  start = default_in_range;
  taken = λ l ending m z old new charge all h taken.
      let read = taken.read.fields.read in
      let parts = read_bytes _ old _ read all in
      let fitting = c.spelled_are_fitting.ensures in
      let numbers = c.spelled_are_numbered.ensures in
      folds_in_range fitting numbers (from_folds taken.fields taken.folded)
      (spelled_are_sound fitting numbers taken.fields read.text parts.0 read.spelled) h;
}
