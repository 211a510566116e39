-- Lemmas on the counts of failures.
use Rattle.std.proofs.Common.{◌≡◌, ℕ, zero, suc, ◌<◌, Result, Ok, Err, refl, arith}
use Rattle.wire_min.specs.Counted.{after_write}

-- a write that takes a byte is no failure
pub after_write-taken : {E : Type 0} (r : Result ℕ E) (n failures : ℕ) → r ≡ Ok n → 0 < n
    → after_write r failures ≡ failures
after_write-taken (Ok zero) n failures e h = let none : 0 ≡ n = cc in absurd (omega arith)
after_write-taken (Ok (suc m)) n failures e h = refl
after_write-taken (Err x) n failures e h = cc
