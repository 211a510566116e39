use Rattle.std.proofs.Common.{◌≡◌, ◌+◌, ◌*◌, length}
use Rattle.wire_base.specs.Charge.{charge}
use Rattle.wire_base.specs.Field.{Fields}
use Rattle.wire_base.specs.Limits.{uncounted}
use Rattle.wire_base.specs.Taken.{TakesFields}
use Rattle.wire_base.proofs.skip.+skip.Given as goal

abbrev pub decreases-skip_payload : goal.decreases-skip_payload
decreases-skip_payload g l = 2 * l.depth

abbrev pub decreases-skip_group : goal.decreases-skip_group
decreases-skip_group g l = 2 * l.depth + 1

abbrev pub invariant-skip_group-loop-tag : goal.invariant-skip_group-loop-tag
invariant-skip_group-loop-tag g l = record {
  so_far : (fs : Fields)
      × TakesFields (charge fs) (uncounted l.fn.depth) fs (g.B.Buf.unread l.fn.buf)
      (g.B.Buf.unread l.buf);
  kept : g.B.Buf.kept l.buf ≡ g.B.Buf.kept l.fn.buf;
}

abbrev pub decreases-skip_group-loop-tag : goal.decreases-skip_group-loop-tag
decreases-skip_group-loop-tag g l = length (g.B.Buf.unread l.buf)
