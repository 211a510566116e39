use Rattle.std.proofs.Common.{◌≡◌, ◌++◌, drop}
use Rattle.wire_dump.specs.Input.{compact}
use Rattle.wire_dump.proofs.input.compact.Given as goal

abbrev pub invariant-loop-byte : goal.invariant-loop-byte
invariant-loop-byte l =
    l.kept.items ++ compact (drop l.byte-index l.text) ≡ compact l.fn.text
