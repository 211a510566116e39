-- A search for the members of a name.
use Rattle.std.proofs.Common.{◌≡◌, ℕ, zero, suc, ◌+◌, ◌<◌, ◌≤◌, List, [], ◌∷◌, length, drop, slice_index_or, Option, Some, None, inl, inr, refl, sym, ap, subst, arith}
use Rattle.std.proofs.Math.Seq.{drop-cons}
use Rattle.std.specs.Prelude.{false, is_some}
use Rattle.std.specs.Cow.{cow_str_bytes}
use Rattle.wire_json.specs.Json.{Json, Members, no_member, member}
use Rattle.wire_json.specs.Reading.{ReadsValue}
use Rattle.wire_jsonfields.specs.declared.object.PlacedMember.{PlacedMember}
use Rattle.wire_jsonfields.specs.Objects.{ArePlaced, AreSeveral, AreValuesOf, IsOnlyPlace}

-- a list of values begins with this one, and the rest is of what is left
pub record BeginsWith (Named : List ℕ → Type 0) (e : Json) (left ms : Members) : Type 0 where
  pub whole : (values : List Json) → AreValuesOf Named left values
      → AreValuesOf Named ms (e ∷ values)
  pub behind : (values : List Json) → AreValuesOf Named ms values
      → (rest : List Json) × (values ≡ e ∷ rest) × AreValuesOf Named left rest

-- what is left has all values
pub record HasAll (Named : List ℕ → Type 0) (left ms : Members) : Type 0 where
  pub whole : (values : List Json) → AreValuesOf Named left values → AreValuesOf Named ms values
  pub behind : (values : List Json) → AreValuesOf Named ms values → AreValuesOf Named left values

module _ (Named : List ℕ → Type 0) (text : List ℕ) where
  abbrev pub Found : Option ℕ → Members → Members → Type 0
  Found None left ms = HasAll Named left ms
  Found (Some place) left ms =
      (e : Json) × ((rest : List ℕ) × ReadsValue e (drop place text) rest)
      × BeginsWith Named e left ms

  abbrev pub Sofar : List PlacedMember → Option ℕ → Members → Type 0
  Sofar rest found ms = (left : Members) × ArePlaced text rest left × Found found left ms

  pub from_start : (entries : List PlacedMember) (ms : Members) → ArePlaced text entries ms
      → Sofar entries None ms
  from_start entries ms are = (ms, are, record { whole = λ v h. h; behind = λ v h. h })

  past_all : (name : List ℕ) (e : Json) (left ms : Members) → (Named name → ⊥)
      → HasAll Named (member name e left) ms → HasAll Named left ms
  past_all name e left ms other s = record {
    whole = λ v h. s.whole v (inr (other, h));
    behind = λ v h. elim (s.behind v h) [
      | inl mine ↦ absurd (other mine.0)
      | inr more ↦ more.1
    ];
  }

  past_begun : (first : Json) (name : List ℕ) (e : Json) (left ms : Members) → (Named name → ⊥)
      → BeginsWith Named first (member name e left) ms → BeginsWith Named first left ms
  past_begun first name e left ms other s = record {
    whole = λ v h. s.whole v (inr (other, h));
    behind = λ v h.
        let (rest, is, more) = s.behind v h in (
          rest,
          is,
          elim more [
            | inl mine ↦ absurd (other mine.0)
            | inr further ↦ further.1
          ],
        );
  }

  past_found : (found : Option ℕ) (name : List ℕ) (e : Json) (left ms : Members)
      → (Named name → ⊥) → Found found (member name e left) ms → Found found left ms
  past_found None name e left ms other s = past_all name e left ms other s
  past_found (Some place) name e left ms other (first, stands, s) =
      (first, stands, past_begun first name e left ms other s)

  pub past_entry : (entry : PlacedMember) (rest : List PlacedMember) (found : Option ℕ) (ms : Members)
      → Sofar (entry ∷ rest) found ms → (Named (cow_str_bytes entry.name) → ⊥)
      → Sofar rest found ms
  past_entry entry rest found ms (no_member, are, s) other = absurd are
  past_entry entry rest found ms (member name e left, are, s) other =
      let not : Named name → ⊥ = λ mine. other (subst Named (sym are.0) mine) in
      (left, are.2, past_found found name e left ms not s)

  pub first_entry : (entry : PlacedMember) (rest : List PlacedMember) (ms : Members)
      → Sofar (entry ∷ rest) None ms → Named (cow_str_bytes entry.name)
      → Sofar rest (Some entry.place) ms
  first_entry entry rest ms (no_member, are, s) mine = absurd are
  first_entry entry rest ms (member name e left, are, s) mine =
      let here : Named name = subst Named are.0 mine in (
        left,
        are.2,
        (
          e,
          are.1,
          record {
            whole = λ v h. s.whole (e ∷ v) (inl (here, (v, refl, h)));
            behind = λ v h. elim (s.behind v h) [
              | inl more ↦ more.1
              | inr other ↦ absurd (other.0 here)
            ];
          },
        ),
      )

  pub second_entry : (entry : PlacedMember) (rest : List PlacedMember) (place : ℕ) (ms : Members)
      → Sofar (entry ∷ rest) (Some place) ms → Named (cow_str_bytes entry.name)
      → AreSeveral Named ms
  second_entry entry rest place ms (no_member, are, s) mine = absurd are
  second_entry entry rest place ms (member name e left, are, (first, stands, s)) mine = λ v h.
      let here : Named name = subst Named are.0 mine in
      let (behind, is, more) = s.behind v h in
      elim more [
        | inl again ↦ two v behind again.1.0 first e is again.1.1
        | inr other ↦ absurd (other.0 here)
      ]
    where
      two : (v behind more : List Json) (a b : Json) → v ≡ a ∷ behind → behind ≡ b ∷ more
          → 2 ≤ length v
      two v behind more a b is again =
          let long : length v ≡ suc (length behind) = ap length is in
          let longer : length behind ≡ suc (length more) = ap length again in
          omega (arith, long, longer)

  pub at_end : (found : Option ℕ) (ms : Members) → Sofar [] found ms
      → IsOnlyPlace Named text ms found
  at_end None ms (no_member, are, s) = s.whole [] refl
  at_end None ms (member name e left, are, s) = absurd are
  at_end (Some place) ms (no_member, are, (first, stands, s)) = (first, s.whole [] refl, stands)
  at_end (Some place) ms (member name e left, are, s) = absurd are

  -- ---- at an index

  pub item_here : (entries : List PlacedMember) (i : ℕ) (item : PlacedMember) → i < length entries
      → item ≡ slice_index_or entries i item → (found : Option ℕ) (ms : Members)
      → Sofar (drop i entries) found ms → Sofar (item ∷ drop (suc i) entries) found ms
  item_here entries i item within is found ms s =
      let whole = subst (λ (l : List PlacedMember). Sofar l found ms) (drop-cons entries i item within) s in
      subst (λ (x : PlacedMember). Sofar (x ∷ drop (suc i) entries) found ms) (sym is) whole

  pub next_index : (entries : List PlacedMember) (i : ℕ) (found : Option ℕ) (ms : Members)
      → Sofar (drop (suc i) entries) found ms → Sofar (drop (i + 1) entries) found ms
  next_index entries i found ms s =
      let next : suc i ≡ i + 1 = omega arith in
      subst (λ (k : ℕ). Sofar (drop k entries) found ms) next s

  pub no_more : (entries : List PlacedMember) (i : ℕ) (found : Option ℕ) (ms : Members)
      → length entries ≤ i → Sofar (drop i entries) found ms → Sofar [] found ms
  no_more entries i found ms past s =
      subst (λ (l : List PlacedMember). Sofar l found ms) (drop_past entries i past) s
    where
      drop_past : (xs : List PlacedMember) (k : ℕ) → length xs ≤ k → drop k xs ≡ []
      drop_past [] zero h = refl
      drop_past [] (suc k) h = refl
      drop_past (x ∷ xs) zero h = absurd (omega (arith, h))
      drop_past (x ∷ xs) (suc k) h = drop_past xs k (omega (arith, h))

pub none_there : (found : Option ℕ) → is_some found ≡ false → found ≡ None
none_there None h = refl
none_there (Some place) h = absurd cc
