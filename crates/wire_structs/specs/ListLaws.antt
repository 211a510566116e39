-- Which records a list of a message has, as the table of the message is put together.
use Rattle.std.proofs.Common.{◌≡◌, ◌≢◌, ◌≤◌, inl, inr, ℕ, Bool, true, false}
use Rattle.std.proofs.Common.{List, [], refl, sym, ap, ◌∙◌, subst, arith}
use Rattle.std.specs.Prelude.{Option, ◌||◌}
use Rattle.wire_codec.specs.Charge.{payload_charge}
use Rattle.wire_codec.specs.Field.{Payload, Fields}
use Rattle.wire_codec.specs.Folds.{Step}
use Rattle.wire_codec.specs.Limits.{Charge, Fits, Limits, element_of, inner, left_after}
use Rattle.wire_codec.specs.LimitsLaws.{LimitsAddUp}
use Rattle.wire_codec.specs.RecordLaws.{WholeInput}
use Rattle.wire_codec.specs.TakingLaws.{LevelsAndCounts}
use Rattle.wire_codec.specs.ValueMap.{ValueMap}
use Rattle.wire_fields.specs.Arms.{unlike}
use Rattle.wire_fields.specs.Messages.{gathers, inside, length_prefixed, merges, or_else}
use Rattle.wire_fields.specs.Numbers.{numeric, number_payload}
use Rattle.wire_fields.specs.Oneof.{Variants, either_of, variant}
use Rattle.wire_fields.specs.Packed.{adds_numbers}
use Rattle.wire_fields.specs.Presence.{adds, sets, sets_some}
use Rattle.wire_fields.specs.Scalar.{ScalarType}
use Rattle.wire_fields.specs.Shape.{Lawful, Shape, keeps, known, on, two, unknown}
use Rattle.wire_fields.specs.Texts.{any_bytes, length_delimited}
use Rattle.wire_fields.specs.declared.form.Form.{Form}
use Rattle.wire_fields.specs.declared.form.Form.TheVariants.{Varint, Fixed64, Fixed32}
use Rattle.wire_structs.specs.Walks.{Makes}

-- ---- the groups of a record are charged their levels

abbrev pub TakesLevels : {V : Type 0} → Step V → Type 0
TakesLevels {V} takes =
    (m z : V) (n : ℕ) (p : Payload) (c : Charge) → takes m n p c z
    → (payload_charge p).depth ≤ c.depth

-- the payloads of the type are no groups
abbrev pub IsFlat : {V : Type 0} → ScalarType V → Type 0
IsFlat {V} t = (p : Payload) (v : V) → t.Sets p v → (payload_charge p).depth ≡ 0

flat_number : (form : Form) (x : ℕ) → (payload_charge (number_payload form x)).depth ≡ 0
flat_number Varint x = refl
flat_number Fixed64 x = refl
flat_number Fixed32 x = refl

pub flat_numeric : {T : Type 0} (form : Form) (map : ValueMap T) → IsFlat (numeric form map)
flat_numeric form map p v h =
    ap (λ x. (payload_charge x).depth) h.has ∙ flat_number form h.number

pub flat_delimited : (IsText : List ℕ → Type 0) → IsFlat (length_delimited IsText)
flat_delimited IsText p v h = ap (λ x. (payload_charge x).depth) h.has

module _ {V : Type 0} (t : ScalarType V) (flat : IsFlat t) where
  pub sets_levels : TakesLevels (sets t)
  sets_levels m z n p c h = omega (arith, flat p z h.1)

  pub some_levels : TakesLevels (sets_some t)
  some_levels m z n p c h = omega (arith, flat p h.1 h.2)

  pub adds_levels : (place : ℕ) → TakesLevels (adds place t)
  adds_levels place m z n p c h = omega (arith, flat p h.1 h.2)

pub numbers_levels : {T : Type 0} (form : Form) (values : ValueMap T)
    → TakesLevels (adds_numbers form values)
numbers_levels form values m z n p c h = elim h.1 [
  | inl k ↦ omega (arith, flat_numeric form values p k.value k.sets)
  | inr k ↦ omega (arith, ap (λ x. (payload_charge x).depth) k.is)
]

module _ {V : Type 0} (takes : Step V) where
  pub inside_levels : TakesLevels (inside length_prefixed takes)
  inside_levels m z n p c (fs, within, has, folded, charged) =
      omega (arith, ap (λ x. (payload_charge x).depth) has.is)

  pub merges_levels : (start : V) → TakesLevels (merges length_prefixed takes start)
  merges_levels start m z n p c (after, (fs, within, has, folded, charged), is) =
      omega (arith, ap (λ x. (payload_charge x).depth) has.is)

  pub gathers_levels : {M : Type 0} (place : ℕ) (start : V) (put : M → V → M)
      → TakesLevels (gathers place length_prefixed takes start put)
  gathers_levels place start put m z n p c (after, one, (fs, within, has, folded, own), sum, is) =
      omega (arith, ap (λ x. (payload_charge x).depth) has.is)

pub keeps_levels : TakesLevels keeps
keeps_levels m z n p c h = omega (arith, ap (λ (x : Charge). x.depth) h.0)

-- so it is in all records that a shape takes
pub record HasLevels {V : Type 0} (s : Shape V) : Type 0 where
  pub levels : TakesLevels s.takes

pub known_levels : {V : Type 0} (k : ℕ) (f : Lawful V) → TakesLevels f.kind.takes
    → HasLevels (known k f)
known_levels k f h = record { levels = h }

pub unknown_levels : HasLevels unknown
unknown_levels = record { levels = keeps_levels }

module _ {A B : Type 0} (a : Shape A) (b : Shape B) (first : HasLevels a) (second : HasLevels b)
  where
    part_levels : (mine : Bool) (m z : A × B) (n : ℕ) (p : Payload) (c : Charge)
        → on mine (a.takes m.0 n p c z.0 × (z.1 ≡ m.1)) (b.takes m.1 n p c z.1 × (z.0 ≡ m.0))
        → (payload_charge p).depth ≤ c.depth
    part_levels true m z n p c h = first.levels m.0 z.0 n p c h.0
    part_levels false m z n p c h = second.levels m.1 z.1 n p c h.0

    pub two_levels : HasLevels (two a b)
    two_levels = record { levels = λ m z n p c h. part_levels (a.owns n p) m z n p c h }

-- and those of a oneof
pub variant_levels : {V T : Type 0} (k : ℕ) (f : Lawful T) (get : V → Option T) (set : T → V)
    → TakesLevels f.kind.takes → TakesLevels (variant k f get set).takes
variant_levels k f get set levels m z n p c (x, h, is) =
    levels (or_else f.kind.default (get m)) x n p c h

module _ {V : Type 0} (a b : Variants V) (first : TakesLevels a.takes)
    (second : TakesLevels b.takes) where
  choice_levels : (mine : Bool) (m z : V) (n : ℕ) (p : Payload) (c : Charge)
      → on mine (a.takes m n p c z) (b.takes m n p c z) → (payload_charge p).depth ≤ c.depth
  choice_levels true m z n p c h = first m z n p c h
  choice_levels false m z n p c h = second m z n p c h

  pub either_levels : TakesLevels (either_of a b).takes
  either_levels m z n p c h = choice_levels (a.owns n p) m z n p c h

-- ---- the records of other numbers

-- of the records that are a part's own, those of other numbers leave the list
abbrev pub OthersLeave : {V A : Type 0} → Shape V → (V → List A) → ℕ → Type 0
OthersLeave {V} s list k =
    (m z : V) (n : ℕ) (p : Payload) (c : Charge) → n ≢ k → s.owns n p ≡ true → s.takes m n p c z
    → list z ≡ list m

-- the list is a field
pub field_leaves : {A : Type 0} (k : ℕ) (f : Lawful (List A)) → OthersLeave (known k f) (λ v. v) k
field_leaves k f m z n p c other own h = absurd (differ (sym own ∙ unlike n k other))
  where
    differ : true ≡ false → ⊥
    differ e = cc

by_owner : {P : Type 0} (b : Bool) → (b ≡ true → P) → (b ≡ false → P) → P
by_owner true holds fails = holds refl
by_owner false holds fails = fails refl

-- it lies in the first of two parts, or in the second
module _ {A B X : Type 0} (a : Shape A) (b : Shape B) (k : ℕ) where
  pub left_leaves : (list : A → List X) → OthersLeave a list k
      → OthersLeave (two a b) (λ m. list m.0) k
  left_leaves list leaves m z n p c other own h =
      by_owner (a.owns n p)
      (λ its. leaves m.0 z.0 n p c other its (subst (λ x. on x
      (a.takes m.0 n p c z.0 × (z.1 ≡ m.1)) (b.takes m.1 n p c z.1 × (z.0 ≡ m.0))) its h).0)
      (λ not. ap list (subst (λ x. on x
      (a.takes m.0 n p c z.0 × (z.1 ≡ m.1)) (b.takes m.1 n p c z.1 × (z.0 ≡ m.0))) not h).1)

  pub right_leaves : (list : B → List X) → OthersLeave b list k
      → OthersLeave (two a b) (λ m. list m.1) k
  right_leaves list leaves m z n p c other own h =
      by_owner (a.owns n p)
      (λ its. ap list (subst (λ x. on x
      (a.takes m.0 n p c z.0 × (z.1 ≡ m.1)) (b.takes m.1 n p c z.1 × (z.0 ≡ m.0))) its h).1)
      (λ not. leaves m.1 z.1 n p c other
      (ap (λ x. x || b.owns n p) (sym not) ∙ own)
      (subst (λ x. on x
      (a.takes m.0 n p c z.0 × (z.1 ≡ m.1)) (b.takes m.1 n p c z.1 × (z.0 ≡ m.0))) not h).0)

-- a list among the known fields of a message
pub whole_leaves : {A X : Type 0} (a : Shape A) (k : ℕ) (list : A → List X) → OthersLeave a list k
    → (m z : A × Fields) (n : ℕ) (p : Payload) (c : Charge) → n ≢ k
    → (two a unknown).takes m n p c z → list z.0 ≡ list m.0
whole_leaves a k list leaves m z n p c other h =
    left_leaves a unknown k list leaves m z n p c other (owned (a.owns n p)) h
  where
    owned : (b : Bool) → (b || true) ≡ true
    owned true = refl
    owned false = refl

-- ---- embedded messages

-- the record of an embedded message more: its payload, and the message that this makes
pub message_more : {V M : Type 0} (s : Shape V) (place : ℕ) (put : M → V → M) → LevelsAndCounts
    → LimitsAddUp → WholeInput → (l : Limits) → l.depth ≤ 100 → (m z : M) (n : ℕ) (p : Payload)
    (c : Charge) → Fits c l → gathers place length_prefixed s.takes s.default put m n p c z
    → (b : List ℕ) × any_bytes.Sets p b × (a : V) × Makes s.takes b s.default a × (z ≡ put m a)
message_more s place put levels limits whole l low m z n p c fits (after, one, h, sum, is) =
    let (fs, within, has, folded, own) = h in
    let left = left_after l (element_of place) in
    let fit = ((limits.both_fit l (element_of place) one).0
    (subst (λ x. Fits x l) sum fits)).1 in
    let deep = (levels.levels.nested_fits left within).0 (subst (λ x. Fits x left) own fit) in (
      has.text,
      record { has = has.is; holds = tt },
      after,
      (
        inner left,
        omega (arith, low),
        (
          within,
          record {
            fields = fs;
            read = (whole within (inner left) fs has.text []).1 (has.spelled, deep.1, refl);
            folded = folded;
          },
        ),
      ),
      is,
    )
