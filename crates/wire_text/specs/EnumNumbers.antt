-- The values of an enum, listed: which of them a number stands for.
use Rattle.std.proofs.Common.{refl, sym, ap, ◌∙◌, true≢false}
use Rattle.std.specs.Prelude.{◌≡◌, ℤ, Bool, true, false, List, [], ◌∷◌, Option, Some, find, cond, is_none, unwrap_or}
use Rattle.std.specs.Ordering.{int_eq}
use Rattle.std.specs.Cmp.{signed_Decides}

-- the first of the values that has this number
abbrev pub first_numbered : {E : Type 0} → (E → ℤ) → List E → ℤ → Option E
first_numbered number values n = find (λ e. int_eq (number e) n) values

chosen_keeps : {E : Type 0} (number : E → ℤ) (n : ℤ) (e x : E) (same : Bool) (others : Option E)
    → (same ≡ true → number x ≡ n) → (others ≡ Some e → number e ≡ n)
    → cond same (Some x) others ≡ Some e → number e ≡ n
chosen_keeps number n e x true others here there found =
    sym (ap (λ o. number (unwrap_or o x)) found) ∙ here refl
chosen_keeps number n e x false others here there found = there found

-- the law of an `Enumeration` whose numbers are looked up so
pub first_numbered_keeps : {E : Type 0} (number : E → ℤ) (values : List E) (n : ℤ) (e : E)
    → first_numbered number values n ≡ Some e → number e ≡ n
first_numbered_keeps number [] n e found = absurd (true≢false (ap is_none found))
first_numbered_keeps number (x ∷ xs) n e found =
    chosen_keeps number n e x (int_eq (number x) n) (first_numbered number xs n)
    (signed_Decides (number x) n).0 (first_numbered_keeps number xs n e) found
