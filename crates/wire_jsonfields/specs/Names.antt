-- The names of fields, and that those of several differ.
use Rattle.std.proofs.Common.{◌≡◌, ◌⊎◌, ℕ, Bool, true, false, ◌||◌, ◌&&◌, not, List, [], ◌∷◌, ◌++◌, inl, inr, refl}
use Rattle.std.specs.Prelude.{MatchBool}
use Rattle.wire_jsonfields.specs.MembersBack.{all_ascii}
use Rattle.wire_jsonfields.specs.Objects.{IsNameOf}
use Rattle.wire_jsonfields.specs.PartsBack.{AreApart, is_same, names_apart}

-- the two names of a field, of which the second is written
abbrev pub Names : Type 0
Names = (List ℕ) × (List ℕ)

-- a name of one of the fields
abbrev pub IsOneOf : List Names → List ℕ → Type 0
IsOneOf [] text = ⊥
IsOneOf (field ∷ fields) text = IsNameOf field.0 field.1 text ⊎ IsOneOf fields text

-- they share a name
abbrev pub share_name : Names → Names → Bool
share_name (a, b) (c, d) = is_same a c || (is_same a d || (is_same b c || is_same b d))

abbrev pub is_apart_from : Names → List Names → Bool
is_apart_from field [] = true
is_apart_from field (other ∷ others) = not (share_name field other) && is_apart_from field others

-- no two fields share a name, and the names that are written are ASCII
abbrev pub are_apart : List Names → Bool
are_apart [] = true
are_apart (field ∷ fields) = all_ascii field.1 && (is_apart_from field fields && are_apart fields)

pub both_hold : (a b : Bool) → (a && b) ≡ true → (a ≡ true) × (b ≡ true)
both_hold true b h = (refl, h)
both_hold false b h = absurd cc

pub negated : (a : Bool) → not a ≡ true → a ≡ false
negated false h = refl
negated true h = absurd cc

-- ---- fields, and others behind them

pub of_both : (ps qs : List Names) (text : List ℕ) → IsOneOf ps text ⊎ IsOneOf qs text
    → IsOneOf (ps ++ qs) text
of_both [] qs text (inl h) = absurd h
of_both [] qs text (inr h) = h
of_both (p ∷ ps) qs text (inl (inl h)) = inl h
of_both (p ∷ ps) qs text (inl (inr h)) = inr (of_both ps qs text (inl h))
of_both (p ∷ ps) qs text (inr h) = inr (of_both ps qs text (inr h))

pub of_either : (ps qs : List Names) (text : List ℕ) → IsOneOf (ps ++ qs) text
    → IsOneOf ps text ⊎ IsOneOf qs text
of_either [] qs text h = inr h
of_either (p ∷ ps) qs text (inl h) = inl (inl h)
of_either (p ∷ ps) qs text (inr h) = more (of_either ps qs text h)
  where
    more : IsOneOf ps text ⊎ IsOneOf qs text → (IsNameOf p.0 p.1 text ⊎ IsOneOf ps text) ⊎ IsOneOf qs text
    more (inl k) = inl (inr k)
    more (inr k) = inr k

apart_parts : (p : Names) (ps qs : List Names) → is_apart_from p (ps ++ qs) ≡ true
    → (is_apart_from p ps ≡ true) × (is_apart_from p qs ≡ true)
apart_parts p [] qs h = (refl, h)
apart_parts p (q ∷ ps) qs h =
    let (first, rest) = both_hold (not (share_name p q)) (is_apart_from p (ps ++ qs)) h in
    let (these, those) = apart_parts p ps qs rest in
    (rw (first, these) refl, those)

one_apart : (p : Names) (qs : List Names) → is_apart_from p qs ≡ true
    → AreApart (IsNameOf p.0 p.1) (IsOneOf qs)
one_apart p [] h = λ n mine other. other
one_apart p (q ∷ qs) h =
    let (first, rest) = both_hold (not (share_name p q)) (is_apart_from p qs) h in
    let here = names_apart p.0 p.1 q.0 q.1 (negated (share_name p q) first) in
    let more = one_apart p qs rest in
    λ n mine other. by_place n mine other here more
  where
    by_place : (n : List ℕ) → IsNameOf p.0 p.1 n → IsNameOf q.0 q.1 n ⊎ IsOneOf qs n
        → AreApart (IsNameOf p.0 p.1) (IsNameOf q.0 q.1)
        → AreApart (IsNameOf p.0 p.1) (IsOneOf qs) → ⊥
    by_place n mine (inl other) here more = here n mine other
    by_place n mine (inr other) here more = more n mine other

pub record ApartParts (ps qs : List Names) : Type 0 where
  pub these : are_apart ps ≡ true
  pub those : are_apart qs ≡ true
  pub apart : AreApart (IsOneOf ps) (IsOneOf qs)

pub parts_apart : (ps qs : List Names) → are_apart (ps ++ qs) ≡ true → ApartParts ps qs
parts_apart [] qs h = record { these = refl; those = h; apart = λ n mine other. mine }
parts_apart (p ∷ ps) qs h =
    let (ascii, more) = both_hold (all_ascii p.1)
    (is_apart_from p (ps ++ qs) && are_apart (ps ++ qs)) h in
    let (first, rest) = both_hold (is_apart_from p (ps ++ qs)) (are_apart (ps ++ qs)) more in
    let (mine, theirs) = apart_parts p ps qs first in
    let behind = parts_apart ps qs rest in
    let here = one_apart p qs theirs in
    record {
      these = rw (ascii, mine, behind.these) refl;
      those = behind.those;
      apart = λ n this other. by_place n this other here behind.apart;
    }
  where
    by_place : (n : List ℕ) → IsNameOf p.0 p.1 n ⊎ IsOneOf ps n → IsOneOf qs n
        → AreApart (IsNameOf p.0 p.1) (IsOneOf qs) → AreApart (IsOneOf ps) (IsOneOf qs) → ⊥
    by_place n (inl this) other here behind = here n this other
    by_place n (inr this) other here behind = behind n this other

pub else_named : (ps qs : List Names) (text : List ℕ) (r : Bool) → (IsOneOf ps text → ⊥)
    → MatchBool r (IsOneOf qs text) (IsOneOf qs text → ⊥)
    → MatchBool r (IsOneOf (ps ++ qs) text) (IsOneOf (ps ++ qs) text → ⊥)
else_named ps qs text true other h = of_both ps qs text (inr h)
else_named ps qs text false other h = λ k. neither (of_either ps qs text k)
  where
    neither : IsOneOf ps text ⊎ IsOneOf qs text → ⊥
    neither (inl k) = other k
    neither (inr k) = h k
