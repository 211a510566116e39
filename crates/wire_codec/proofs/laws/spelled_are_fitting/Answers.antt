use Rattle.wire_codec.proofs.Fitting.{records_fit}
use Rattle.wire_codec.proofs.laws.spelled_are_fitting.Goals as goal

pub returns : goal.returns
returns c = records_fit
