use Rattle.std.proofs.Common.{rules}
use Rattle.wire_min.proofs.Known.{Consumes-to_end}
use Rattle.wire_min.proofs.Results.{ok_before}
use Rattle.wire_min.proofs.run.read_to_end.Goals as goal

pub returns-then-count-eq0-clause-ok : goal.returns-then-count-eq0-clause-ok
returns-then-count-eq0-clause-ok g c =
    let last = rw (ok_before c.read.result _ _ c.in_ok-count.ensures) at c.read.ensures.bytes in
    Consumes-to_end _ _ _ _ _ _ c.if-count-eq0.true c.loop.invariant.bytes last.0
    (last.1 c.if-count-eq0.true (search rules))
