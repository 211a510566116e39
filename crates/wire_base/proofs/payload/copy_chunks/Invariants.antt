use Rattle.std.proofs.Common.{◌≡◌, ◌≤◌, ◌-◌, ◌++◌, vec_len}
use Rattle.std.specs.Vec.{vec_capacity}
use Rattle.wire_base.proofs.payload.copy_chunks.Given as goal

abbrev pub invariant-loop-buf : goal.invariant-loop-buf
invariant-loop-buf g l = record {
  parts : g.B.Buf.unread l.fn.buf ≡ l.bytes.items ++ g.B.Buf.unread l.buf;
  few : vec_len l.bytes ≤ l.len;
  room : l.len ≤ vec_capacity l.bytes;
  kept : g.B.Buf.kept l.buf ≡ g.B.Buf.kept l.fn.buf;
}

abbrev pub decreases-loop-buf : goal.decreases-loop-buf
decreases-loop-buf g l = l.len - vec_len l.bytes
