use Rattle.std.proofs.Common.{◌≡◌, ◌+◌, ◌*◌, length}
use Rattle.wire_codec.specs.Ending.{by_limit, by_tag}
use Rattle.wire_codec.specs.Limits.{inner}
use Rattle.wire_codec.proofs.Lists.{Follows}
use Rattle.wire_fields.specs.NestTable.{family_takes}
use Rattle.wire_fields.proofs.recursive.merge.+merge.Given as goal

-- ---- levels: a level down is less, whatever is called there

abbrev pub decreases-merge_group : goal.decreases-merge_group
decreases-merge_group g l = 4 * l.context.now.depth

abbrev pub decreases-merge_grouped : goal.decreases-merge_grouped
decreases-merge_grouped g l = 4 * l.context.now.depth + 1

abbrev pub decreases-merge_embedded : goal.decreases-merge_embedded
decreases-merge_embedded g l = 4 * l.context.now.depth + 1

abbrev pub decreases-merge_held : goal.decreases-merge_held
decreases-merge_held g l = 4 * l.context.now.depth + 3

abbrev pub decreases-merge_once : goal.decreases-merge_once
decreases-merge_once g l = 4 * l.context.now.depth + 2

abbrev pub decreases-merge_each : goal.decreases-merge_each
decreases-merge_each g l = 4 * l.context.now.depth + 2

abbrev pub decreases-merge_once_grouped : goal.decreases-merge_once_grouped
decreases-merge_once_grouped g l = 4 * l.context.now.depth + 2

abbrev pub decreases-merge_each_grouped : goal.decreases-merge_each_grouped
decreases-merge_each_grouped g l = 4 * l.context.now.depth + 2

abbrev pub decreases-merge_payload : goal.decreases-merge_payload
decreases-merge_payload g l = 4 * l.context.now.depth + 4

-- ---- what is taken from here on is what is taken from the start

abbrev pub invariant-merge_payload-loop-alloc : goal.invariant-merge_payload-loop-alloc
invariant-merge_payload-loop-alloc g l = record {
  follows : Follows (family_takes g.T.RecursiveHeld.family (g.T.RecursiveHeld.sort l.fn.message))
      (by_limit l.fn.rest) l.fn.context
      (g.T.RecursiveHeld.view l.fn.message) (g.B.Buf.unread l.fn.buf) l.context
      (g.T.RecursiveHeld.view l.message) (g.B.Buf.unread l.buf);
  sort : g.T.RecursiveHeld.sort l.message ≡ g.T.RecursiveHeld.sort l.fn.message;
  kept : g.B.Buf.kept l.buf ≡ g.B.Buf.kept l.fn.buf;
}

abbrev pub decreases-merge_payload-loop-alloc : goal.decreases-merge_payload-loop-alloc
decreases-merge_payload-loop-alloc g l = length (g.B.Buf.unread l.buf)

abbrev pub invariant-merge_group-loop-tag : goal.invariant-merge_group-loop-tag
invariant-merge_group-loop-tag g l = record {
  follows : Follows (family_takes g.T.RecursiveHeld.family (g.T.RecursiveHeld.sort l.fn.message))
      (by_tag l.fn.number) (inner l.fn.context)
      (g.T.RecursiveHeld.view l.fn.message) (g.B.Buf.unread l.fn.buf) l.context
      (g.T.RecursiveHeld.view l.message) (g.B.Buf.unread l.buf);
  sort : g.T.RecursiveHeld.sort l.message ≡ g.T.RecursiveHeld.sort l.fn.message;
  kept : g.B.Buf.kept l.buf ≡ g.B.Buf.kept l.fn.buf;
}

abbrev pub decreases-merge_group-loop-tag : goal.decreases-merge_group-loop-tag
decreases-merge_group-loop-tag g l = length (g.B.Buf.unread l.buf)
