-- Closed enums: a number that the enum does not have is kept as an unknown field.
use Rattle.std.proofs.Common.{◌≡◌, ap, ◌∙◌, sym, List, [], ◌∷◌, ◌++◌}
use Rattle.std.specs.Prelude.{ℕ, ℤ, Option, Some, None, ◌==◌}
use Rattle.wire_codec.specs.EnumValue.{EnumValue}
use Rattle.wire_codec.specs.EnumValue.TheVariants.{Known}
use Rattle.wire_codec.specs.Field.{Payload, Fields, push, varint, fixed64, fixed32, bytes, group}
use Rattle.wire_codec.specs.Folds.{Step, IsSingle}
use Rattle.wire_codec.specs.Limits.{Charge, both, no_charge, one_field}
use Rattle.wire_codec.specs.Packed.{SpellsEach}
use Rattle.wire_codec.specs.TakingLaws.{OneReading}
use Rattle.wire_codec.specs.ValueMap.{int32}
use Rattle.wire_codec.specs.Varint.{IsSpelling}
use Rattle.wire_fields.specs.declared.form.Form.TheVariants.{Varint}
use Rattle.wire_fields.specs.Enums.{open_enum}
use Rattle.wire_fields.specs.Leaving.{Leaving}
use Rattle.wire_fields.specs.Numbers.{numeric}
use Rattle.wire_fields.specs.Packed.{packed_records, one_list, one_text}
use Rattle.wire_fields.specs.Presence.{optional_records, each_record}

-- ---- a number

-- the enum's value of a number is added, and a number without one is kept as a varint
abbrev pub sorted : {E M : Type 0} → (M → EnumValue E → M) → ℕ → ℕ → M × Fields → Option E
    → M × Fields
sorted add n x m None = (m.0, push m.1 n (varint x))
sorted add n x m (Some e) = (add m.0 (Known e), m.1)

-- what is kept is charged as an unknown field
abbrev pub sort_charge : {E : Type 0} → Option E → Charge
sort_charge None = one_field
sort_charge (Some e) = no_charge

-- ---- numbers, one after another

abbrev pub all_sorted : {E M : Type 0} → (M → EnumValue E → M) → (ℤ → Option E) → ℕ → M × Fields
    → List ℕ → M × Fields
all_sorted add of_number n m [] = m
all_sorted add of_number n m (x ∷ xs) =
    all_sorted add of_number n (sorted add n x m (of_number (int32.dec x))) xs

abbrev pub all_charge : {E : Type 0} → (ℤ → Option E) → List ℕ → Charge
all_charge of_number [] = no_charge
all_charge of_number (x ∷ xs) =
    both (sort_charge (of_number (int32.dec x))) (all_charge of_number xs)

-- the numbers of a payload: a varint, or varints one after another
abbrev pub HasNumbers : Payload → List ℕ → Type 0
HasNumbers (varint x) xs = xs ≡ x ∷ []
HasNumbers (fixed64 x) xs = ⊥
HasNumbers (fixed32 x) xs = ⊥
HasNumbers (bytes b) xs = SpellsEach IsSpelling xs b
HasNumbers (group fs) xs = ⊥

-- ---- what is taken

-- an enum's value takes the place of the old one
abbrev pub sets_known : {E : Type 0} → Option (EnumValue E) → EnumValue E → Option (EnumValue E)
sets_known m e = Some e

-- one value more
abbrev pub adds_known : {E : Type 0} → List (EnumValue E) → EnumValue E → List (EnumValue E)
adds_known m e = m ++ e ∷ []

-- the payload is a varint, whose value is added, or which is kept
abbrev pub closes_by : {E M : Type 0} → (M → EnumValue E → M) → (ℤ → Option E) → Step (M × Fields)
closes_by add of_number m n p c z =
    (x : ℕ) × (p ≡ varint x) × (c ≡ sort_charge (of_number (int32.dec x)))
    × (z ≡ sorted add n x m (of_number (int32.dec x)))

abbrev pub closes : {E : Type 0} → (ℤ → Option E) → Step (Option (EnumValue E) × Fields)
closes = closes_by sets_known

-- the payload is numbers, whose values are added in order, and the others kept in order
abbrev pub closes_each : {E : Type 0} → (ℤ → Option E) → Step (List (EnumValue E) × Fields)
closes_each of_number m n p c z =
    (xs : List ℕ) × HasNumbers p xs × (c ≡ all_charge of_number xs)
    × (z ≡ all_sorted adds_known of_number n m xs)

same_varint : (p : Payload) (x y : ℕ) → p ≡ varint x → p ≡ varint y → x ≡ y
same_varint p x y h k = cc

pub same_numbers : OneReading → (p : Payload) (xs ys : List ℕ) → HasNumbers p xs → HasNumbers p ys
    → xs ≡ ys
same_numbers reading (varint x) xs ys h k = h ∙ sym k
same_numbers reading (bytes b) xs ys h k =
    one_list Varint (one_text reading.varint Varint) xs ys b h k
same_numbers reading (fixed64 x) xs ys h k = absurd h
same_numbers reading (fixed32 x) xs ys h k = absurd h
same_numbers reading (group fs) xs ys h k = absurd h

module _ {E : Type 0} (of_number : ℤ → Option E) where
  pub closes_single : {M : Type 0} (add : M → EnumValue E → M) → IsSingle (closes_by add of_number)
  closes_single {M} add m u z w n p c d (x, has, charged, is) (y, has_y, charged_y, is_y) =
      let same = same_varint p x y has has_y in (
        charged ∙ ap (λ k. sort_charge (of_number (int32.dec k))) same ∙ sym charged_y,
        λ e. is ∙ ap (λ k. sorted add n k m (of_number (int32.dec k))) same
            ∙ ap (λ (v : M × Fields). sorted add n y v (of_number (int32.dec y))) e ∙ sym is_y,
      )

  pub closes_each_single : OneReading → IsSingle (closes_each of_number)
  closes_each_single reading m u z w n p c d (xs, has, charged, is) (ys, has_y, charged_y, is_y) =
      let same = same_numbers reading p xs ys has has_y in (
        charged ∙ ap (all_charge of_number) same ∙ sym charged_y,
        λ e. is ∙ ap (all_sorted adds_known of_number n m) same
            ∙ ap (λ (v : List (EnumValue E) × Fields). all_sorted adds_known of_number n v ys) e
            ∙ sym is_y,
      )

-- ---- fields

-- a closed enum where there is one
abbrev pub closed_once : {E : Type 0} → (E → ℤ) → (ℤ → Option E) → ℕ
    → Leaving (Option (EnumValue E))
closed_once number of_number n = record {
  owns = λ k p. k == n;
  default = None;
  records = optional_records (numeric Varint (open_enum number of_number)) n;
  takes = closes of_number;
  single = λ reading. closes_single of_number sets_known;
}

-- as many as there are, in one payload
abbrev pub closed_packed : {E : Type 0} → (E → ℤ) → (ℤ → Option E) → ℕ
    → Leaving (List (EnumValue E))
closed_packed number of_number n = record {
  owns = λ k p. k == n;
  default = [];
  records = packed_records Varint (open_enum number of_number) n;
  takes = closes_each of_number;
  single = λ reading. closes_each_single of_number reading;
}

-- as many as there are, each in a record of its own
abbrev pub closed_unpacked : {E : Type 0} → (E → ℤ) → (ℤ → Option E) → ℕ
    → Leaving (List (EnumValue E))
closed_unpacked number of_number n = record {
  owns = λ k p. k == n;
  default = [];
  records = each_record (numeric Varint (open_enum number of_number)) n;
  takes = closes_each of_number;
  single = λ reading. closes_each_single of_number reading;
}
