use Rattle.std.proofs.Common.{length}
use Rattle.wire_samples.proofs.Unknowns.{Passed}
use Rattle.wire_samples.proofs.unknown_spans.walk.Given as goal

abbrev pub invariant-loop-rest : goal.invariant-loop-rest
invariant-loop-rest l = Passed l.fn.context l.fn.bytes l.rest l.view l.context

abbrev pub decreases-loop-rest : goal.decreases-loop-rest
decreases-loop-rest l = length l.rest
