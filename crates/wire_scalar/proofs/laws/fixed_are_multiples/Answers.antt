use Rattle.wire_scalar.proofs.Counting.{fixed_counted}
use Rattle.wire_scalar.proofs.laws.fixed_are_multiples.Goals as goal

pub returns : goal.returns
returns c = fixed_counted
