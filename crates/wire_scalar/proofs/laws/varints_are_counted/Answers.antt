use Rattle.wire_scalar.proofs.Counting.{varints_counted}
use Rattle.wire_scalar.proofs.laws.varints_are_counted.Goals as goal

pub returns : goal.returns
returns c = varints_counted
