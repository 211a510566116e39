use Rattle.std.proofs.Common.{length}
use Rattle.std.specs.List.{concat}
use Rattle.wire_bench.proofs.ropes.wb_rope_varints.Given as goal

abbrev pub decreases-loop-buf : goal.decreases-loop-buf
decreases-loop-buf l = length (concat l.buf)
