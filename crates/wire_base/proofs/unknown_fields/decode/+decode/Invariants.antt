use Rattle.std.proofs.Common.{◌≡◌, ◌+◌, ◌*◌, length}
use Rattle.wire_base.specs.Charge.{charge}
use Rattle.wire_base.specs.Limits.{left_after}
use Rattle.wire_base.specs.Taken.{TakesFields}
use Rattle.wire_base.proofs.unknown_fields.decode.+decode.Given as goal

abbrev pub decreases-decode_field : goal.decreases-decode_field
decreases-decode_field g l = 3 * l.context.now.depth + 1

abbrev pub decreases-decode_value : goal.decreases-decode_value
decreases-decode_value g l = 3 * l.context.now.depth

abbrev pub decreases-decode_group : goal.decreases-decode_group
decreases-decode_group g l = 3 * l.context.now.depth + 2

abbrev pub invariant-decode_group-loop-fields : goal.invariant-decode_group-loop-fields
invariant-decode_group-loop-fields g l = record {
  so_far : TakesFields (charge l.fields) l.fn.context l.fields (g.B.Buf.unread l.fn.buf)
      (g.B.Buf.unread l.buf);
  context : l.context ≡ left_after l.fn.context (charge l.fields);
  kept : g.B.Buf.kept l.buf ≡ g.B.Buf.kept l.fn.buf;
}

abbrev pub decreases-decode_group-loop-fields : goal.decreases-decode_group-loop-fields
decreases-decode_group-loop-fields g l = length (g.B.Buf.unread l.buf)
