-- Numbers of a few digits.
use Rattle.std.proofs.Common.{◌≡◌, ℕ, ◌+◌, ◌/◌, ◌%◌, ◌^◌, ◌<◌, ◌≤◌, List, [], ◌∷◌, ◌++◌, ap, sym, ◌∙◌, append_assoc, arith}
use Rattle.std.specs.Fmt.{decimal}
use Rattle.std.proofs.lemmas.Fmt.{decimal_digit, decimal_step}

pub two_digits : (n : ℕ) → 10 ≤ n → n < 100
    → decimal n ≡ (48 + n / 10) ∷ (48 + n % 10) ∷ []
two_digits n from to =
    decimal_step n from (omega (arith, to))
    ∙ ap (λ (l : List ℕ). l ++ (48 + n % 10) ∷ []) (decimal_digit (n / 10) (omega (arith, to)))

pub two_more : (n : ℕ) → 100 ≤ n → n < 2 ^ 64
    → decimal n ≡ decimal (n / 100) ++ (48 + n % 100 / 10) ∷ (48 + n % 100 % 10) ∷ []
two_more n from to =
    let high : n / 10 / 10 ≡ n / 100 = omega arith in
    let tens : n / 10 % 10 ≡ n % 100 / 10 = omega arith in
    let ones : n % 10 ≡ n % 100 % 10 = omega arith in
    decimal_step n (omega (arith, from)) to
    ∙ ap (λ (l : List ℕ). l ++ (48 + n % 10) ∷ [])
    (decimal_step (n / 10) (omega (arith, from)) (omega (arith, to)))
    ∙ append_assoc (decimal (n / 10 / 10)) ((48 + n / 10 % 10) ∷ []) ((48 + n % 10) ∷ [])
    ∙ ap (λ (k : ℕ). decimal k ++ (48 + n / 10 % 10) ∷ (48 + n % 10) ∷ []) high
    ∙ ap (λ (k : ℕ). decimal (n / 100) ++ (48 + k) ∷ (48 + n % 10) ∷ []) tens
    ∙ ap (λ (k : ℕ). decimal (n / 100) ++ (48 + n % 100 / 10) ∷ (48 + k) ∷ []) ones

-- two digits behind the others
pub pair_put : (n : ℕ) (old mid new : List ℕ) → 100 ≤ n → n < 2 ^ 64
    → mid ≡ old ++ decimal (n / 100)
    → new ≡ mid ++ (48 + n % 100 / 10) ∷ (48 + n % 100 % 10) ∷ [] → new ≡ old ++ decimal n
pair_put n old mid new from to first second =
    let pair = (48 + n % 100 / 10) ∷ (48 + n % 100 % 10) ∷ [] in
    second ∙ ap (λ (x : List ℕ). x ++ pair) first ∙ append_assoc old (decimal (n / 100)) pair
    ∙ ap (λ (x : List ℕ). old ++ x) (sym (two_more n from to))
