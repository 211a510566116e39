use Rattle.std.proofs.Common.{arith}
use Rattle.wire_protojson.proofs.number.uint32_of.Goals as goal

pub returns-in-None-clause-none : goal.returns-in-None-clause-none
returns-in-None-clause-none c = λ n means.
    c.in-None.ensures.none n (means.0, means.1, means.2, means.3, omega (arith, means.4))
