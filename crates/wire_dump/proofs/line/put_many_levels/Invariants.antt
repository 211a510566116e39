use Rattle.std.proofs.Common.{◌≡◌, ◌++◌}
use Rattle.wire_dump.specs.Lines.{indented}
use Rattle.wire_dump.proofs.line.put_many_levels.Given as goal

abbrev pub invariant-loop : goal.invariant-loop
invariant-loop l = l.out.items ≡ l.fn.out.items ++ indented l.counter
