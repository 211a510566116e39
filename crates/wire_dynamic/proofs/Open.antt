-- Types within groups.
use Rattle.std.specs.Prelude.{◌≡◌, ℕ, ◌+◌, ◌<◌, List, [], ◌∷◌, ◌++◌, length, take, drop, reverse, slice_index, None}
use Rattle.std.proofs.Common.{ap, refl, ◌∙◌, sym}
use Rattle.std.proofs.lemmas.List.{reverse-append, take_more, take-append-drop}
use Rattle.wire_dynamic.specs.declared.schema.Schema.{Schema}
use Rattle.wire_dynamic.specs.Walks.{innermost}

-- where the schema has no such group, it has none within it
pub none_within : (s : Schema) (root : ℕ) (more outside : List ℕ)
    → innermost s root outside ≡ None → innermost s root (more ++ outside) ≡ None
none_within s root [] outside none = none
none_within s root (n ∷ more) outside none = rw (none_within s root more outside none) refl

-- one group more is open
pub one_more : (xs : List ℕ) (i : ℕ) → i < length xs
    → reverse (take (i + 1) xs) ≡ slice_index xs i ∷ reverse (take i xs)
one_more xs i within =
    rw (take_more xs i 0 within) (reverse-append (take i xs) (slice_index xs i ∷ []))

-- the groups behind one stand within it
pub all_within : (s : Schema) (root : ℕ) (xs : List ℕ) (i : ℕ)
    → innermost s root (reverse (take i xs)) ≡ None → innermost s root (reverse xs) ≡ None
all_within s root xs i none =
    ap (λ ys. innermost s root (reverse ys)) (sym (take-append-drop i xs))
    ∙ (ap (innermost s root) (reverse-append (take i xs) (drop i xs))
    ∙ none_within s root (reverse (drop i xs)) (reverse (take i xs)) none)
