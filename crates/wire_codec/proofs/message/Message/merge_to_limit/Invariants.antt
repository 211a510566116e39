use Rattle.std.proofs.Common.{◌≡◌, length}
use Rattle.wire_base.specs.Ending.{by_limit}
use Rattle.wire_codec.proofs.Lists.{Follows}
use Rattle.wire_codec.proofs.message.Message.merge_to_limit.Given as goal

abbrev pub invariant-loop-buf : goal.invariant-loop-buf
invariant-loop-buf g l = record {
  follows : Follows g.Self.Message.takes (by_limit l.fn.limit) l.fn.context
      (g.Self.Message.view l.fn.self) (g.B.Buf.unread l.fn.buf)
      l.context (g.Self.Message.view l.self) (g.B.Buf.unread l.buf);
  kept : g.B.Buf.kept l.buf ≡ g.B.Buf.kept l.fn.buf;
}

abbrev pub decreases-loop-buf : goal.decreases-loop-buf
decreases-loop-buf g l = length (g.B.Buf.unread l.buf)
