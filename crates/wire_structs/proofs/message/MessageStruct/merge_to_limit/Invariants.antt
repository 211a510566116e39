use Rattle.std.proofs.Common.{length}
use Rattle.wire_codec.specs.Ending.{by_limit}
use Rattle.wire_codec.proofs.Lists.{Follows}
use Rattle.wire_structs.proofs.message.MessageStruct.merge_to_limit.Given as goal

abbrev pub invariant-loop-buf : goal.invariant-loop-buf
invariant-loop-buf g l =
    Follows g.Self.MessageStruct.takes (by_limit l.fn.limit) l.fn.context
    (g.Self.MessageStruct.view l.fn.self) (g.Self.Source.Buf.unread l.fn.buf) l.context
    (g.Self.MessageStruct.view l.self) (g.Self.Source.Buf.unread l.buf)

abbrev pub decreases-loop-buf : goal.decreases-loop-buf
decreases-loop-buf g l = length (g.Self.Source.Buf.unread l.buf)
