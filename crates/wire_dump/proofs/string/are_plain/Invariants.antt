use Rattle.std.proofs.Common.{◌≡◌, IsTrue, drop}
use Rattle.wire_dump.specs.Lines.{escaped}
use Rattle.wire_dump.proofs.string.are_plain.Given as goal

abbrev pub invariant-loop-byte : goal.invariant-loop-byte
invariant-loop-byte l =
    IsTrue l.are → escaped (drop l.byte-index l.bytes) ≡ drop l.byte-index l.bytes
    → escaped l.fn.bytes ≡ l.fn.bytes
