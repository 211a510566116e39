-- A message as a tree of fields: which records are theirs, what they write, and what they take.
use Rattle.std.proofs.Common.{◌≡◌, ap, ◌∙◌, sym}
use Rattle.std.specs.Prelude.{ℕ, Bool, List, true, false, ◌==◌, ◌||◌}
use Rattle.wire_codec.specs.Charge.{payload_charge}
use Rattle.wire_codec.specs.Field.{Payload, Fields, push}
use Rattle.wire_codec.specs.Folds.{Step, IsSingle}
use Rattle.wire_codec.specs.Limits.{Charge}
use Rattle.wire_codec.specs.Options.{default_limits}
use Rattle.wire_codec.specs.Records.{Records, joined_records, of_fields}
use Rattle.wire_codec.specs.Taking.{Decodes, NotDecoded}
use Rattle.wire_codec.specs.TakingLaws.{OneReading}

-- ---- two parts of a value

-- the first of two statements, or the second
abbrev pub on : Bool → Type 0 → Type 0 → Type 0
on true a b = a
on false a b = b

-- which records are a part's own, by field number and payload
abbrev pub Owns : Type 0
Owns = ℕ → Payload → Bool

-- a record that the first part owns is for the first, and any other for the second; the other part
-- stays as it is
abbrev pub either : {A B : Type 0} → Owns → Step A → Step B → Step (A × B)
either owns one other m n p c z =
    on (owns n p) (one m.0 n p c z.0 × (z.1 ≡ m.1)) (other m.1 n p c z.1 × (z.0 ≡ m.0))

pub same_pair : {A B : Type 0} (x y : A × B) → x.0 ≡ y.0 → x.1 ≡ y.1 → x ≡ y
same_pair x y first second = ap (λ a. (a, x.1)) first ∙ ap (λ b. (y.0, b)) second

module _ {A B : Type 0} (one : Step A) (other : Step B) (one_single : IsSingle one)
    (other_single : IsSingle other) where
  single_on : (b : Bool) (m u z w : A × B) (n : ℕ) (p : Payload) (c d : Charge)
      → on b (one m.0 n p c z.0 × (z.1 ≡ m.1)) (other m.1 n p c z.1 × (z.0 ≡ m.0))
      → on b (one u.0 n p d w.0 × (w.1 ≡ u.1)) (other u.1 n p d w.1 × (w.0 ≡ u.0))
      → (c ≡ d) × (m ≡ u → z ≡ w)
  single_on true m u z w n p c d h k =
      let same = one_single m.0 u.0 z.0 w.0 n p c d h.0 k.0 in (
        same.0,
        λ e. same_pair z w (same.1 (ap (λ (x : A × B). x.0) e))
            (h.1 ∙ ap (λ (x : A × B). x.1) e ∙ sym k.1),
      )
  single_on false m u z w n p c d h k =
      let same = other_single m.1 u.1 z.1 w.1 n p c d h.0 k.0 in (
        same.0,
        λ e. same_pair z w (h.1 ∙ ap (λ (x : A × B). x.0) e ∙ sym k.1)
            (same.1 (ap (λ (x : A × B). x.1) e)),
      )

pub single_either : {A B : Type 0} (owns : Owns) (one : Step A) (other : Step B)
    → IsSingle one → IsSingle other → IsSingle (either owns one other)
single_either owns one other one_single other_single m u z w n p c d h k =
    single_on one other one_single other_single (owns n p) m u z w n p c d h k

-- ---- fields

-- a kind of field: the value of no records, the records of a value under a field number, and what a
-- value makes of a record
pub record FieldKind (V : Type 0) : Type 1 where
  pub default : V
  pub records : ℕ → V → Records
  pub takes : Step V

-- a kind with its law: a record has one charge, and makes one value
pub record Lawful (V : Type 0) : Type 1 where
  pub kind : FieldKind V
  pub single : OneReading → IsSingle kind.takes

-- some fields of a message: the records that are their own, and the same three, with the law
pub record Shape (V : Type 0) : Type 1 where
  pub owns : Owns
  pub default : V
  pub records : V → Records
  pub takes : Step V
  pub single : OneReading → IsSingle takes

-- the value that all of the bytes are, within the limits of a caller that names none
abbrev pub DecodesAs : {V : Type 0} → Shape V → List ℕ → V → Type 0
DecodesAs s bytes m = Decodes s.takes default_limits s.default bytes m

-- the bytes are no value within these limits
abbrev pub NotDecodedAs : {V : Type 0} → Shape V → List ℕ → Type 0
NotDecodedAs s bytes = NotDecoded s.takes default_limits s.default bytes

-- one field of this number
abbrev pub known : {V : Type 0} → ℕ → Lawful V → Shape V
known n f = record {
  owns = λ k p. k == n;
  default = f.kind.default;
  records = f.kind.records n;
  takes = f.kind.takes;
  single = f.single;
}

-- some fields, written before others
abbrev pub two : {A B : Type 0} → Shape A → Shape B → Shape (A × B)
two a b = record {
  owns = λ n p. a.owns n p || b.owns n p;
  default = (a.default, b.default);
  records = λ m. joined_records (a.records m.0) (b.records m.1);
  takes = either a.owns a.takes b.takes;
  single = λ reading. single_either a.owns a.takes b.takes (a.single reading) (b.single reading);
}

-- ---- the records that no field owns

-- the record is kept, and charged
abbrev pub keeps : Step Fields
keeps m n p c z = (c ≡ payload_charge p) × (z ≡ push m n p)

pub keeps_single : IsSingle keeps
keeps_single m u z w n p c d h k =
    (h.0 ∙ sym k.0, λ e. h.1 ∙ ap (λ (x : Fields). push x n p) e ∙ sym k.1)

-- the unknown fields, which own every record that is left
abbrev pub unknown : Shape Fields
unknown = record {
  owns = λ n p. true;
  default = Fields.none;
  records = of_fields;
  takes = keeps;
  single = λ reading. keeps_single;
}
