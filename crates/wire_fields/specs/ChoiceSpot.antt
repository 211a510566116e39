-- Where a oneof stands in a leaf of which some variants are rows, and what records make of it.
use Rattle.std.proofs.Common.{◌≡◌, ◌⊎◌, inl, inr, ℕ, refl, sym, ap, ◌∙◌}
use Rattle.std.proofs.lemmas.Bool.Decides.{eqb_tells}
use Rattle.std.specs.Prelude.{Bool, true, false, ◌==◌, ◌||◌, Option, Some, None, is_some}
use Rattle.wire_codec.specs.Field.{Payload, Fields}
use Rattle.wire_codec.specs.Limits.{Charge}
use Rattle.wire_codec.specs.Records.{Records}
use Rattle.wire_fields.specs.Back.{or_right}
use Rattle.wire_fields.specs.ChoiceBack.{IsChoice, both_not}
use Rattle.wire_fields.specs.NestChoice.{Choice, in_first, in_second, no_variant}
use Rattle.wire_fields.specs.Oneof.{Variants, variant, either_of, oneof}
use Rattle.wire_fields.specs.Shape.{Lawful, Shape, on, two, unknown}

-- ---- numbers

pub tells_one : (n k : ℕ) → (n == k) ≡ true → n ≡ k
tells_one n k is = elim (eqb_tells n k) [
  | inl h ↦ h.1
  | inr h ↦ absurd (both_not (n == k) is h.0)
]

pub tells_either : {A B : Type 0} (a b : Bool) → (a ≡ true → A) → (b ≡ true → B)
    → (a || b) ≡ true → A ⊎ B
tells_either true b first second is = inl (first refl)
tells_either false b first second is = inr (second is)

-- ---- where the oneof stands in a leaf

-- a oneof among the fields of a shape
pub record Spot {V : Type 0} (s : Shape V) (is_plain : ℕ → Bool) (stands : V → Bool)
    (without : V → V) : Type 0 where
  pub apart : (m z : V) (n : ℕ) (p : Payload) (k : Charge) → s.owns n p ≡ true
      → is_plain n ≡ false → s.takes m n p k z → stands z ≡ stands m
  pub lasts : (m z : V) (n : ℕ) (p : Payload) (k : Charge) → is_plain n ≡ true
      → s.takes m n p k z → stands m ≡ true → stands z ≡ true
  pub same : (m : V) → stands m ≡ false → without m ≡ m
  pub gone : (m : V) → stands (without m) ≡ false

-- a record of some variants makes one of them stand
abbrev pub AlwaysSets : {V : Type 0} → Variants (Option V) → Type 0
AlwaysSets {V} v =
    (m z : Option V) (n : ℕ) (p : Payload) (k : Charge) → v.takes m n p k z → is_some z ≡ true

pub variant_sets : {V T : Type 0} (n : ℕ) (f : Lawful T) (get : Option V → Option T)
    (set : T → Option V) → ((t : T) → is_some (set t) ≡ true) → AlwaysSets (variant n f get set)
variant_sets n f get set is m z j p k (t, taken, same) = ap is_some same ∙ is t

sets_on : {V : Type 0} (b : Bool) (A B : Type 0) (z : Option V) → (A → is_some z ≡ true)
    → (B → is_some z ≡ true) → on b A B → is_some z ≡ true
sets_on true A B z first second h = first h
sets_on false A B z first second h = second h

pub either_sets : {V : Type 0} (a b : Variants (Option V)) → AlwaysSets a → AlwaysSets b
    → AlwaysSets (either_of a b)
either_sets a b first second m z n p k h =
    sets_on (a.owns n p) (a.takes m n p k z) (b.takes m n p k z) z (first m z n p k)
    (second m z n p k) h

pub none_same : {V : Type 0} (m : Option V) → is_some m ≡ false → None ≡ m
none_same None h = refl
none_same (Some v) h = absurd cc

-- the oneof itself
pub here_spot : {V : Type 0} (records : Option V → Records) (v : Variants (Option V))
    (is_plain : ℕ → Bool) → ((n : ℕ) (p : Payload) → v.owns n p ≡ is_plain n) → AlwaysSets v
    → Spot (oneof None records v) is_plain is_some no_variant
here_spot records v is_plain owns sets = record {
  apart = λ m z n p k own other taken.
      absurd (both_not (is_plain n) (sym (owns n p) ∙ own) other);
  lasts = λ m z n p k own taken stands. sets m z n p k taken;
  same = none_same;
  gone = λ m. refl;
}

module _ {A B : Type 0} (a : Shape A) (b : Shape B) (is_plain : ℕ → Bool) where
  module _ (stands : A → Bool) (without : A → A) (x : Spot a is_plain stands without) where
    first_apart : (t : Bool) (m z : A × B) (n : ℕ) (p : Payload) (k : Charge) → a.owns n p ≡ t
        → is_plain n ≡ false
        → on t (a.takes m.0 n p k z.0 × (z.1 ≡ m.1)) (b.takes m.1 n p k z.1 × (z.0 ≡ m.0))
        → stands z.0 ≡ stands m.0
    first_apart true m z n p k own other h = x.apart m.0 z.0 n p k own other h.0
    first_apart false m z n p k own other h = ap stands h.1

    first_lasts : (t : Bool) (m z : A × B) (n : ℕ) (p : Payload) (k : Charge) → is_plain n ≡ true
        → on t (a.takes m.0 n p k z.0 × (z.1 ≡ m.1)) (b.takes m.1 n p k z.1 × (z.0 ≡ m.0))
        → stands m.0 ≡ true → stands z.0 ≡ true
    first_lasts true m z n p k is h stood = x.lasts m.0 z.0 n p k is h.0 stood
    first_lasts false m z n p k is h stood = ap stands h.1 ∙ stood

    pub first_spot : Spot (two a b) is_plain (λ m. stands m.0) (in_first without)
    first_spot = record {
      apart = λ m z n p k own other h. first_apart (a.owns n p) m z n p k refl other h;
      lasts = λ m z n p k is h. first_lasts (a.owns n p) m z n p k is h;
      same = λ m is. ap (λ (y : A). (y, m.1)) (x.same m.0 is);
      gone = λ m. x.gone m.0;
    }

  module _ (stands : B → Bool) (without : B → B) (x : Spot b is_plain stands without) where
    second_apart : (t : Bool) (m z : A × B) (n : ℕ) (p : Payload) (k : Charge)
        → (t || b.owns n p) ≡ true → is_plain n ≡ false
        → on t (a.takes m.0 n p k z.0 × (z.1 ≡ m.1)) (b.takes m.1 n p k z.1 × (z.0 ≡ m.0))
        → stands z.1 ≡ stands m.1
    second_apart true m z n p k own other h = ap stands h.1
    second_apart false m z n p k own other h = x.apart m.1 z.1 n p k own other h.0

    second_lasts : (t : Bool) (m z : A × B) (n : ℕ) (p : Payload) (k : Charge)
        → is_plain n ≡ true
        → on t (a.takes m.0 n p k z.0 × (z.1 ≡ m.1)) (b.takes m.1 n p k z.1 × (z.0 ≡ m.0))
        → stands m.1 ≡ true → stands z.1 ≡ true
    second_lasts true m z n p k is h stood = ap stands h.1 ∙ stood
    second_lasts false m z n p k is h stood = x.lasts m.1 z.1 n p k is h.0 stood

    pub second_spot : Spot (two a b) is_plain (λ m. stands m.1) (in_second without)
    second_spot = record {
      apart = λ m z n p k own other h. second_apart (a.owns n p) m z n p k own other h;
      lasts = λ m z n p k is h. second_lasts (a.owns n p) m z n p k is h;
      same = λ m is. ap (λ (y : B). (m.0, y)) (x.same m.1 is);
      gone = λ m. x.gone m.1;
    }

-- fields with the unknown ones
pub leaf_choice : {V : Type 0} (known : Shape V) (c : Choice (V × Fields))
    → Spot (two known unknown) c.is_plain c.stands c.without
    → IsChoice (two known unknown).takes c
leaf_choice known c x = record {
  apart = λ m z n p k other taken. x.apart m z n p k (or_right (known.owns n p) true refl) other taken;
  lasts = x.lasts;
  same = x.same;
  gone = x.gone;
}
