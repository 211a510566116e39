use Rattle.std.proofs.Common.{refl, arith}
use Rattle.wire_frames.specs.Frames.{in_payload, too_large}
use Rattle.wire_frames.proofs.extent.find_frame.Goals as goal

pub returns-then-prefix-limit-clause-fault : goal.returns-then-prefix-limit-clause-fault
returns-then-prefix-limit-clause-fault g c =
    let read = rw c.in-Some.is at c.in_ok-prefix.ensures.some in
    too_large _ _ _ read c.if-prefix-limit.true refl

pub returns-then-behind-prefix-clause-none : goal.returns-then-behind-prefix-clause-none
returns-then-behind-prefix-clause-none g c =
    let read = rw c.in-Some.is at c.in_ok-prefix.ensures.some in
    in_payload _ _ _ read c.if-prefix-limit.false
    (omega (arith, c.remaining-behind.ensures, c.if-behind-prefix.true))
