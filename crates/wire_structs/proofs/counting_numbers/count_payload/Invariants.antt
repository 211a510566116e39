use Rattle.std.proofs.Common.{◌≡◌, ◌+◌, List, [], length}
use Rattle.wire_fields.proofs.NumberTexts.{Follows}
use Rattle.wire_fields.specs.Numbers.{in_64_bits}
use Rattle.wire_structs.proofs.counting_numbers.count_payload.Given as goal

-- the numbers so far are counted
abbrev pub invariant-loop-rest : goal.invariant-loop-rest
invariant-loop-rest g l =
    (vs : List g.S.StructNumber.Value)
    × Follows g.S.StructNumber.form g.S.StructNumber.map l.fn.payload [] l.rest vs
    × (l.count ≡ in_64_bits (l.fn.before + length vs))

abbrev pub decreases-loop-rest : goal.decreases-loop-rest
decreases-loop-rest g l = length l.rest
