use Rattle.std.proofs.Common.{◌≡◌, ◌+◌, ◌*◌, length}
use Rattle.wire_base.specs.Charge.{charge}
use Rattle.wire_base.specs.Field.{Fields}
use Rattle.wire_base.specs.Limits.{left_after}
use Rattle.wire_base.specs.Taken.{TakesFields}
use Rattle.wire_structs.proofs.passing.+pass.Given as goal

abbrev pub decreases-pass_payload : goal.decreases-pass_payload
decreases-pass_payload g l = 2 * l.context.now.depth

abbrev pub decreases-pass_group : goal.decreases-pass_group
decreases-pass_group g l = 2 * l.context.now.depth + 1

abbrev pub invariant-pass_group-loop-tag : goal.invariant-pass_group-loop-tag
invariant-pass_group-loop-tag g l =
    (fs : Fields)
    × TakesFields (charge fs) l.fn.context fs (g.B.Buf.unread l.fn.buf) (g.B.Buf.unread l.buf)
    × (l.context ≡ left_after l.fn.context (charge fs))

abbrev pub decreases-pass_group-loop-tag : goal.decreases-pass_group-loop-tag
decreases-pass_group-loop-tag g l = length (g.B.Buf.unread l.buf)
