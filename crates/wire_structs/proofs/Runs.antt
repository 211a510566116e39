-- Numbers that stand in a row.
use Rattle.std.proofs.Common.{◌≡◌, ℕ, zero, suc, ◌+◌, ◌≤◌, ◌<◌, Bool, true, false, refl, sym, ap, ◌∙◌, arith, inl, inr}
use Rattle.std.proofs.lemmas.Bool.Decides.{eqb_tells}
use Rattle.std.specs.Prelude.{◌&&◌}

-- all of so many numbers in a row, from this one on
abbrev pub all_of : (ℕ → Bool) → ℕ → ℕ → Bool
all_of holds first zero = true
all_of holds first (suc count) = holds first && all_of holds (first + 1) count

both_hold : (a b : Bool) → (a && b) ≡ true → (a ≡ true) × (b ≡ true)
both_hold true b h = (refl, h)
both_hold false b h = absurd cc

-- each of them
pub one_of : (holds : ℕ → Bool) (first count n : ℕ) → all_of holds first count ≡ true → first ≤ n
    → n < first + count → holds n ≡ true
one_of holds first zero n all low high = absurd (omega (arith, low, high))
one_of holds first (suc count) n all low high =
    let both = both_hold (holds first) (all_of holds (first + 1) count) all in
    elim (eqb_tells first n) [
      | inl e ↦ ap holds (sym e.1) ∙ both.0
      | inr e ↦ one_of holds (first + 1) count n both.1
          (omega (arith, low, e.1)) (omega (arith, high))
    ]
