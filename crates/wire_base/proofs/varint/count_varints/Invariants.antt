use Rattle.std.proofs.Common.{◌≡◌, ◌+◌, length}
use Rattle.std.specs.Prelude.{count_by, nat_lt}
use Rattle.wire_base.proofs.varint.count_varints.Given as goal

-- what is counted so far, and what is left
abbrev pub invariant-loop-rest : goal.invariant-loop-rest
invariant-loop-rest l =
    l.count + count_by (λ byte. nat_lt byte 128) l.rest
    ≡ count_by (λ byte. nat_lt byte 128) l.payload

abbrev pub decreases-loop-rest : goal.decreases-loop-rest
decreases-loop-rest l = length l.rest
