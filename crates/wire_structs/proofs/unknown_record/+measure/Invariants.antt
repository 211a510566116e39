use Rattle.std.proofs.Common.{◌≡◌, ◌+◌, ◌*◌, length}
use Rattle.wire_base.specs.Charge.{charge}
use Rattle.wire_base.specs.Field.{Fields}
use Rattle.wire_base.specs.Limits.{uncounted}
use Rattle.wire_base.specs.Taken.{TakesFields}
use Rattle.wire_base.specs.Text.{size}
use Rattle.wire_fields.specs.Numbers.{in_64_bits}
use Rattle.wire_structs.proofs.unknown_record.+measure.Given as goal

abbrev pub decreases-unknown_record_len : goal.decreases-unknown_record_len
decreases-unknown_record_len l = 2 * l.depth

abbrev pub decreases-group_len : goal.decreases-group_len
decreases-group_len l = 2 * l.depth + 1

-- the records so far, and what was counted of them
abbrev pub invariant-group_len-loop-tag : goal.invariant-group_len-loop-tag
invariant-group_len-loop-tag l =
    (fs : Fields)
    × TakesFields (charge fs) (uncounted l.fn.depth) fs l.fn.buf.now l.buf.now
    × (l.len ≡ in_64_bits (size fs))

abbrev pub decreases-group_len-loop-tag : goal.decreases-group_len-loop-tag
decreases-group_len-loop-tag l = length l.buf.now
