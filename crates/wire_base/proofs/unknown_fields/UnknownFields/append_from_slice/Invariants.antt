use Rattle.std.proofs.Common.{length}
use Rattle.wire_base.specs.Taken.{KeepsBehind}
use Rattle.wire_base.proofs.unknown_fields.UnknownFields.append_from_slice.Given as goal

abbrev pub invariant-loop-buf : goal.invariant-loop-buf
invariant-loop-buf l =
    KeepsBehind l.fn.context l.context l.fn.self l.fn.bytes l.self l.buf

abbrev pub decreases-loop-buf : goal.decreases-loop-buf
decreases-loop-buf l = length l.buf
