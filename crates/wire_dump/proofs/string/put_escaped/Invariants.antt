use Rattle.std.proofs.Common.{◌≡◌, ◌++◌, length}
use Rattle.wire_dump.specs.Lines.{escaped}
use Rattle.wire_dump.proofs.string.put_escaped.Given as goal

abbrev pub invariant-loop-rest : goal.invariant-loop-rest
invariant-loop-rest l = l.out.items ++ escaped l.rest ≡ l.fn.out.items ++ escaped l.fn.bytes

abbrev pub decreases-loop-rest : goal.decreases-loop-rest
decreases-loop-rest l = length l.rest
