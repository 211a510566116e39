use Rattle.std.proofs.Common.{◌≡◌, length}
use Rattle.wire_base.specs.Charge.{charge}
use Rattle.wire_base.specs.Field.{Fields}
use Rattle.wire_base.specs.Limits.{uncounted}
use Rattle.wire_base.specs.Taken.{TakesFields}
use Rattle.wire_base.specs.Text.{size}
use Rattle.wire_fields.specs.Numbers.{in_64_bits}
use Rattle.wire_structs.specs.Unknown.{unowned}
use Rattle.wire_structs.proofs.unknown.unknown_len.Given as goal

-- the records so far, and what was counted of them
abbrev pub invariant-loop-buf : goal.invariant-loop-buf
invariant-loop-buf g l =
    (fs : Fields) × TakesFields (charge fs) (uncounted 100) fs l.fn.bytes l.buf
    × (l.len ≡ in_64_bits (size (unowned g.M.FieldNumbers.owns fs)))

abbrev pub decreases-loop-buf : goal.decreases-loop-buf
decreases-loop-buf g l = length l.buf
