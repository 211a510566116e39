-- Groups as numbers in a row, of which the last is the innermost.
use Rattle.std.proofs.Common.{◌≡◌, ℕ, ◌+◌, ◌-◌, ◌<◌, ◌≤◌, List, [], ◌∷◌, ◌++◌, length, take, drop, min, sym, ap, ◌∙◌, arith}
use Rattle.std.specs.Prelude.{reverse, get_or}
use Rattle.std.proofs.lemmas.List.{reverse-append, take_more}
use Rattle.wire_read.specs.declared.reader.Reader.{Reader}
use Rattle.wire_read.specs.Reading.{groups_of, levels_in}

take_last : (xs : List ℕ) (k d : ℕ) → k < length xs
    → take (k + 1) xs ≡ take k xs ++ get_or xs k d ∷ []
take_last xs k d h = take_more xs k d h

pub below : (xs : List ℕ) (k d : ℕ) → 0 < k → k ≤ length xs
    → reverse (take (k - 1) xs) ≡ drop 1 (reverse (take k xs))
below xs k d some few =
    let same : k ≡ k - 1 + 1 = omega (arith, some) in
    sym (ap (drop 1) (ap (λ j. reverse (take j xs)) same
    ∙ ap reverse (take_last xs (k - 1) d (omega (arith, some, few)))
    ∙ reverse-append (take (k - 1) xs) (get_or xs (k - 1) d ∷ [])))

pub popped : (r : Reader) (k : ℕ) → k ≡ min r.group_count (levels_in r) → k ≤ length r.groups
    → 0 < k → reverse (take (min (k - 1) (levels_in r)) r.groups) ≡ drop 1 (groups_of r)
popped r k is few some =
    ap (λ j. reverse (take j r.groups)) less ∙ below r.groups k 0 some few
    ∙ ap (λ j. drop 1 (reverse (take j r.groups))) is
  where
    less : min (k - 1) (levels_in r) ≡ k - 1
    less = omega (arith, is, some)
