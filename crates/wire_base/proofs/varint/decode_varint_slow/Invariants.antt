use Rattle.std.proofs.Common.{◌≡◌}
use Rattle.wire_base.proofs.Varints.{ReadSoFar}
use Rattle.wire_base.proofs.varint.decode_varint_slow.Given as goal

abbrev pub invariant-loop-index : goal.invariant-loop-index
invariant-loop-index g l = record {
  read : ReadSoFar (g.B.Buf.unread l.fn.buf) (g.B.Buf.unread l.buf) l.value l.index;
  kept : g.B.Buf.kept l.buf ≡ g.B.Buf.kept l.fn.buf;
}
