use Rattle.wire_base.proofs.Sinks.{two_parts}
use Rattle.wire_base.proofs.laws.two_parts.Goals as goal

pub returns : goal.returns
returns c = two_parts
