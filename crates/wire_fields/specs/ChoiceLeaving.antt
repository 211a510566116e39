-- Where a oneof of which some variants are rows stands in a leaf whose fields leave records to the
-- unknown fields, or that drops these.
use Rattle.std.proofs.Common.{◌≡◌, ℕ, refl, sym, ap, ◌∙◌}
use Rattle.std.specs.Prelude.{Bool, true, false, ⊤, ℤ, ◌==◌, ◌||◌, Option, Some, None, is_some}
use Rattle.wire_codec.specs.EnumValue.{EnumValue}
use Rattle.wire_codec.specs.EnumValue.TheVariants.{Known}
use Rattle.wire_codec.specs.Field.{Payload, Fields}
use Rattle.wire_codec.specs.Limits.{Charge}
use Rattle.wire_codec.specs.Records.{Records}
use Rattle.wire_codec.specs.ValueMap.{int32}
use Rattle.wire_fields.specs.Back.{or_right}
use Rattle.wire_fields.specs.ChoiceBack.{IsChoice, both_not}
use Rattle.wire_fields.specs.ChoiceSpot.{Spot, AlwaysSets, none_same}
use Rattle.wire_fields.specs.Closed.{closes_by, sorted}
use Rattle.wire_fields.specs.ClosedOneof.{becomes, closing}
use Rattle.wire_fields.specs.Dropped.{dropped}
use Rattle.wire_fields.specs.Leaving.{Leaving, leaving_none, both_leaving, on_first, on_second}
use Rattle.wire_fields.specs.Leaving.{with_unknown, keeps_beside}
use Rattle.wire_fields.specs.NestChoice.{Choice, in_first, in_second, no_variant}
use Rattle.wire_fields.specs.Oneof.{Variants, oneof}
use Rattle.wire_fields.specs.Shape.{Shape, on, two}

-- a oneof among fields that may leave records
pub record LeavingSpot {V : Type 0} (s : Leaving V) (is_plain : ℕ → Bool) (stands : V → Bool)
    (without : V → V) : Type 0 where
  pub apart : (m z : V × Fields) (n : ℕ) (p : Payload) (k : Charge) → s.owns n p ≡ true
      → is_plain n ≡ false → s.takes m n p k z → stands z.0 ≡ stands m.0
  pub lasts : (m z : V × Fields) (n : ℕ) (p : Payload) (k : Charge) → is_plain n ≡ true
      → s.takes m n p k z → stands m.0 ≡ true → stands z.0 ≡ true
  pub same : (m : V) → stands m ≡ false → without m ≡ m
  pub gone : (m : V) → stands (without m) ≡ false

-- among fields that leave nothing
pub none_spot : {V : Type 0} (s : Shape V) (is_plain : ℕ → Bool) (stands : V → Bool)
    (without : V → V) → Spot s is_plain stands without
    → LeavingSpot (leaving_none s) is_plain stands without
none_spot s is_plain stands without x = record {
  apart = λ m z n p k own other taken. x.apart m.0 z.0 n p k own other taken.0;
  lasts = λ m z n p k own taken. x.lasts m.0 z.0 n p k own taken.0;
  same = x.same;
  gone = x.gone;
}

-- ---- a oneof with closed enums

-- what stands is followed by what stands
abbrev pub LeavesSet : {V : Type 0} → Leaving (Option V) → Type 0
LeavesSet {V} s =
    (m z : Option V × Fields) (n : ℕ) (p : Payload) (k : Charge) → s.takes m n p k z
    → is_some m.0 ≡ true → is_some z.0 ≡ true

-- of the variants of other kinds
pub others_set : {V : Type 0} (records : Option V → Records) (v : Variants (Option V))
    → AlwaysSets v → LeavesSet (leaving_none (oneof None records v))
others_set records v sets m z n p k taken stood = sets m.0 z.0 n p k taken.0

-- of one more of a closed enum
module _ {E V : Type 0} (number : ℕ) (of_number : ℤ → Option E) (set : EnumValue E → Option V)
    (s : Leaving (Option V)) (is : (e : EnumValue E) → is_some (set e) ≡ true) (x : LeavesSet s) where
  sorted_set : (m : Option V × Fields) (n v : ℕ) (found : Option E) → is_some m.0 ≡ true
      → is_some (sorted (becomes set) n v m found).0 ≡ true
  sorted_set m n v None stood = stood
  sorted_set m n v (Some e) stood = is (Known e)

  set_on : (b : Bool) (m z : Option V × Fields) (n : ℕ) (p : Payload) (k : Charge)
      → on b (closes_by (becomes set) of_number m n p k z) (s.takes m n p k z)
      → is_some m.0 ≡ true → is_some z.0 ≡ true
  set_on true m z n p k (v, has, charged, same) stood =
      ap (λ (y : Option V × Fields). is_some y.0) same
      ∙ sorted_set m n v (of_number (int32.dec v)) stood
  set_on false m z n p k taken stood = x m z n p k taken stood

  pub closed_set : LeavesSet (closing number of_number set s)
  closed_set m z n p k taken stood = set_on (n == number) m z n p k taken stood

-- the oneof itself
pub here_leaving : {V : Type 0} (s : Leaving (Option V)) (is_plain : ℕ → Bool)
    → ((n : ℕ) (p : Payload) → s.owns n p ≡ is_plain n) → LeavesSet s
    → LeavingSpot s is_plain is_some no_variant
here_leaving s is_plain owns set = record {
  apart = λ m z n p k own other taken.
      absurd (both_not (is_plain n) (sym (owns n p) ∙ own) other);
  lasts = λ m z n p k own taken. set m z n p k taken;
  same = none_same;
  gone = λ m. refl;
}

-- ---- in a pair

module _ {A B : Type 0} (a : Leaving A) (b : Leaving B) (is_plain : ℕ → Bool) where
  -- what the parts make of a record
  abbrev Parts : Bool → (A × B) × Fields → ℕ → Payload → Charge → (A × B) × Fields → Type 0
  Parts t m n p k z = on t (on_first a.takes m n p k z) (on_second b.takes m n p k z)

  module _ (stands : A → Bool) (without : A → A) (x : LeavingSpot a is_plain stands without) where
    first_apart : (t : Bool) (m z : (A × B) × Fields) (n : ℕ) (p : Payload) (k : Charge)
        → a.owns n p ≡ t → is_plain n ≡ false → Parts t m n p k z → stands z.0.0 ≡ stands m.0.0
    first_apart true m z n p k own other h =
        x.apart (m.0.0, m.1) (z.0.0, z.1) n p k own other h.0
    first_apart false m z n p k own other h = ap stands h.1

    first_lasts : (t : Bool) (m z : (A × B) × Fields) (n : ℕ) (p : Payload) (k : Charge)
        → is_plain n ≡ true → Parts t m n p k z → stands m.0.0 ≡ true → stands z.0.0 ≡ true
    first_lasts true m z n p k is h stood = x.lasts (m.0.0, m.1) (z.0.0, z.1) n p k is h.0 stood
    first_lasts false m z n p k is h stood = ap stands h.1 ∙ stood

    pub first_leaving : LeavingSpot (both_leaving a b) is_plain (λ m. stands m.0) (in_first without)
    first_leaving = record {
      apart = λ m z n p k own other h. first_apart (a.owns n p) m z n p k refl other h;
      lasts = λ m z n p k is h. first_lasts (a.owns n p) m z n p k is h;
      same = λ m is. ap (λ (y : A). (y, m.1)) (x.same m.0 is);
      gone = λ m. x.gone m.0;
    }

  module _ (stands : B → Bool) (without : B → B) (x : LeavingSpot b is_plain stands without) where
    second_apart : (t : Bool) (m z : (A × B) × Fields) (n : ℕ) (p : Payload) (k : Charge)
        → (t || b.owns n p) ≡ true → is_plain n ≡ false → Parts t m n p k z
        → stands z.0.1 ≡ stands m.0.1
    second_apart true m z n p k own other h = ap stands h.1
    second_apart false m z n p k own other h =
        x.apart (m.0.1, m.1) (z.0.1, z.1) n p k own other h.0

    second_lasts : (t : Bool) (m z : (A × B) × Fields) (n : ℕ) (p : Payload) (k : Charge)
        → is_plain n ≡ true → Parts t m n p k z → stands m.0.1 ≡ true → stands z.0.1 ≡ true
    second_lasts true m z n p k is h stood = ap stands h.1 ∙ stood
    second_lasts false m z n p k is h stood = x.lasts (m.0.1, m.1) (z.0.1, z.1) n p k is h.0 stood

    pub second_leaving : LeavingSpot (both_leaving a b) is_plain (λ m. stands m.1)
        (in_second without)
    second_leaving = record {
      apart = λ m z n p k own other h. second_apart (a.owns n p) m z n p k own other h;
      lasts = λ m z n p k is h. second_lasts (a.owns n p) m z n p k is h;
      same = λ m is. ap (λ (y : B). (m.0, y)) (x.same m.1 is);
      gone = λ m. x.gone m.1;
    }

-- ---- the whole leaf

-- the fields with the unknown ones
module _ {V : Type 0} (known : Leaving V) (c : Choice (V × Fields)) (stands : V → Bool)
    (without : V → V) (x : LeavingSpot known c.is_plain stands without)
    (stands_is : (m : V × Fields) → c.stands m ≡ stands m.0)
    (without_is : (m : V × Fields) → c.without m ≡ (without m.0, m.1)) where
  leaf_apart : (t : Bool) (m z : V × Fields) (n : ℕ) (p : Payload) (k : Charge)
      → known.owns n p ≡ t → c.is_plain n ≡ false
      → on t (known.takes m n p k z) (keeps_beside m n p k z) → stands z.0 ≡ stands m.0
  leaf_apart true m z n p k own other h = x.apart m z n p k own other h
  leaf_apart false m z n p k own other h = ap stands h.1

  leaf_lasts : (t : Bool) (m z : V × Fields) (n : ℕ) (p : Payload) (k : Charge)
      → c.is_plain n ≡ true → on t (known.takes m n p k z) (keeps_beside m n p k z)
      → stands m.0 ≡ true → stands z.0 ≡ true
  leaf_lasts true m z n p k is h stood = x.lasts m z n p k is h stood
  leaf_lasts false m z n p k is h stood = ap stands h.1 ∙ stood

  pub leaving_choice : IsChoice (with_unknown known).takes c
  leaving_choice = record {
    apart = λ m z n p k other h.
        stands_is z ∙ leaf_apart (known.owns n p) m z n p k refl other h ∙ sym (stands_is m);
    lasts = λ m z n p k is h stood.
        stands_is z ∙ leaf_lasts (known.owns n p) m z n p k is h (sym (stands_is m) ∙ stood);
    same = λ m is.
        without_is m ∙ ap (λ (y : V). (y, m.1)) (x.same m.0 (sym (stands_is m) ∙ is));
    gone = λ m. stands_is (c.without m)
        ∙ ap (λ (y : V × Fields). stands y.0) (without_is m) ∙ x.gone m.0;
  }

-- the fields where no unknown ones are kept
pub dropping_choice : {V : Type 0} (known : Shape V) (c : Choice (V × ⊤))
    → Spot (two known dropped) c.is_plain c.stands c.without
    → IsChoice (two known dropped).takes c
dropping_choice known c x = record {
  apart = λ m z n p k other taken.
      x.apart m z n p k (or_right (known.owns n p) true refl) other taken;
  lasts = x.lasts;
  same = x.same;
  gone = x.gone;
}
