use Rattle.std.proofs.Common.{◌≡◌, ◌++◌, ℕ, List}
use Rattle.wire_dump.proofs.float_text.put_zeros.Given as goal

abbrev pub invariant-loop : goal.invariant-loop
invariant-loop l = (text : List ℕ) × (l.out.items ≡ l.fn.out.items ++ text)
