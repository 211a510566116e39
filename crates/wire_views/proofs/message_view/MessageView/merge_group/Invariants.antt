use Rattle.std.proofs.Common.{◌≡◌, length}
use Rattle.wire_base.specs.Ending.{by_tag}
use Rattle.wire_base.specs.Limits.{inner}
use Rattle.wire_codec.proofs.Lists.{Follows}
use Rattle.wire_views.proofs.message_view.MessageView.merge_group.Given as goal

abbrev pub invariant-loop-tag : goal.invariant-loop-tag
invariant-loop-tag g l = record {
  follows : Follows g.Self.MessageView.takes (by_tag l.fn.number) (inner l.fn.context)
      (g.Self.MessageView.view l.fn.self) (g.Self.Source.Buf.unread l.fn.buf)
      l.context (g.Self.MessageView.view l.self) (g.Self.Source.Buf.unread l.buf);
  kept : g.Self.Source.Buf.kept l.buf ≡ g.Self.Source.Buf.kept l.fn.buf;
}

abbrev pub decreases-loop-tag : goal.decreases-loop-tag
decreases-loop-tag g l = length (g.Self.Source.Buf.unread l.buf)
