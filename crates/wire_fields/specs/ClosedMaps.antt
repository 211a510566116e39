-- Maps whose values are of a closed enum: an entry whose value the enum does not have is kept as an
-- unknown field.
use Rattle.std.proofs.Common.{◌≡◌, refl, ap, ◌∙◌, sym, List, []}
use Rattle.std.specs.BTreeMap.{insert_entry}
use Rattle.std.specs.Cmp.Lexicographic.{slice_cmp}
use Rattle.std.specs.declared.cmp.Ordering.{Ordering}
use Rattle.std.specs.Ordering.{nat_cmp, int_cmp, bool_cmp}
use Rattle.std.specs.Prelude.{ℕ, ℤ, Bool, Option, Some, None, ◌==◌}
use Rattle.wire_codec.specs.Charge.{payload_charge}
use Rattle.wire_codec.specs.EnumValue.{EnumValue}
use Rattle.wire_codec.specs.EnumValue.TheVariants.{Known, Unknown}
use Rattle.wire_codec.specs.Field.{Payload, Fields, bytes, push}
use Rattle.wire_codec.specs.Folds.{Step, IsSingle}
use Rattle.wire_codec.specs.Limits.{Charge, both, no_charge}
use Rattle.wire_codec.specs.TakingLaws.{OneReading}
use Rattle.wire_codec.specs.ValueMap.{ValueMap, bool}
use Rattle.wire_fields.specs.declared.form.Form.{Form}
use Rattle.wire_fields.specs.declared.form.Form.TheVariants.{Varint}
use Rattle.wire_fields.specs.Enums.{open_enum}
use Rattle.wire_fields.specs.Leaving.{Leaving}
use Rattle.wire_fields.specs.Maps.{EntryOf, entry_default, entry_takes, entry_single, reads_entry}
use Rattle.wire_fields.specs.Maps.{each_entry}
use Rattle.wire_fields.specs.Messages.{length_prefixed, gathers_single}
use Rattle.wire_fields.specs.Numbers.{numeric}
use Rattle.wire_fields.specs.Presence.{always, sets_single}
use Rattle.wire_fields.specs.Scalar.{ScalarType}
use Rattle.wire_fields.specs.Shape.{FieldKind}
use Rattle.wire_fields.specs.Texts.{string}

-- ---- an entry

-- a value is read and written as that of an open enum
abbrev pub closed_value : {E : Type 0} → (E → ℤ) → (ℤ → Option E) → FieldKind (EnumValue E)
closed_value number of_number = (always (numeric Varint (open_enum number of_number))).kind

-- the entry where the enum has its value, and else the record among the unknown fields
abbrev pub entry_or_kept : {K E : Type 0} → ℕ → Payload → Fields → K → EnumValue E
    → Option (K × EnumValue E) × Fields
entry_or_kept n p u k (Known e) = (Some (k, Known e), u)
entry_or_kept n p u k (Unknown i) = (None, push u n p)

-- what a record that is kept is charged besides
abbrev pub kept_charge : {E : Type 0} → Payload → EnumValue E → Charge
kept_charge p (Known e) = no_charge
kept_charge p (Unknown i) = payload_charge p

-- an entry is read, and its place in memory charged, whatever its value is
abbrev pub finds_entry : {K E : Type 0} → ℕ → ScalarType K → FieldKind (EnumValue E)
    → Step (Option (K × EnumValue E) × Fields)
finds_entry {K} {E} place key value m n p c z =
    (e : EntryOf K (EnumValue E)) × (one : Charge)
    × reads_entry place key value (entry_default key value) n p one e
    × (c ≡ both one (kept_charge p e.0.1)) × (z ≡ entry_or_kept n p m.1 e.0.0 e.0.1)

-- the bytes are read as an entry of this key and value, for this charge
abbrev pub IsEntryOf : {K E : Type 0} → ℕ → ScalarType K → FieldKind (EnumValue E) → List ℕ → Charge
    → K → EnumValue E → Type 0
IsEntryOf place key value b c k v =
    reads_entry place key value (entry_default key value) 0 (bytes b) c ((k, v), tt)

-- ---- entries

-- the entries with the one that was found
abbrev pub with_found : {K V : Type 0} → (K → K → Ordering) → List (K × V) → Option (K × V)
    → List (K × V)
with_found order m None = m
with_found order m (Some e) = insert_entry order m e.0 e.1

-- the entry that is found is put in its place, or its value in that of the one with the same key
abbrev pub closes_entry : {K E : Type 0} → ℕ → (K → K → Ordering) → ScalarType K
    → FieldKind (EnumValue E) → Step (List (K × EnumValue E) × Fields)
closes_entry {K} {E} place order key value m n p c z =
    (found : Option (K × EnumValue E) × Fields)
    × finds_entry place key value (None, m.1) n p c found
    × (z ≡ (with_found order m.0 found.0, found.1))

module _ {K E : Type 0} (place : ℕ) (order : K → K → Ordering) (key : ScalarType K)
    (number : E → ℤ) (of_number : ℤ → Option E) where
  abbrev value : FieldKind (EnumValue E)
  value = closed_value number of_number

  finds_single : OneReading → IsSingle (finds_entry place key value)
  finds_single reading m u z w n p c d (e, one, read, charged, is)
      (f, two, read_2, charged_2, is_2) =
      let start = entry_default key value in
      let takes = entry_takes key value in
      let agree = gathers_single length_prefixed takes reading
      (entry_single key value (sets_single (numeric Varint (open_enum number of_number))))
      place start (λ m x. x) start start e f n p one two read read_2 in
      let same = agree.1 refl in (
        charged ∙ ap (λ x. both x (kept_charge p e.0.1)) agree.0
            ∙ ap (λ (x : EntryOf K (EnumValue E)). both two (kept_charge p x.0.1)) same
            ∙ sym charged_2,
        λ i. is
            ∙ ap (λ (x : Option (K × EnumValue E) × Fields). entry_or_kept n p x.1 e.0.0 e.0.1) i
            ∙ ap (λ (x : EntryOf K (EnumValue E)). entry_or_kept n p u.1 x.0.0 x.0.1) same
            ∙ sym is_2,
      )

  pub closes_entry_single : OneReading → IsSingle (closes_entry place order key value)
  closes_entry_single reading m u z w n p c d (found, find, is) (found_2, find_2, is_2) =
      let agree =
      finds_single reading (None, m.1) (None, u.1) found found_2 n p c d find find_2 in (
        agree.0,
        λ i. is
            ∙ ap (λ (x : Option (K × EnumValue E) × Fields). (with_found order m.0 x.0, x.1))
            (agree.1 (ap (λ (x : List (K × EnumValue E) × Fields). (None, x.1)) i))
            ∙ ap (λ (x : List (K × EnumValue E) × Fields).
            (with_found order x.0 found_2.0, found_2.1)) i
            ∙ sym is_2,
      )

  -- ---- fields

  -- a map with keys of this order, each record of it charged for so many bytes
  abbrev pub closed_map_of : ℕ → Leaving (List (K × EnumValue E))
  closed_map_of n = record {
    owns = λ k p. k == n;
    default = [];
    records = each_entry key value n;
    takes = closes_entry place order key value;
    single = λ reading. closes_entry_single reading;
  }

-- by the type of the keys, as maps of other values
abbrev pub closed_text_map : {E : Type 0} → ℕ → (E → ℤ) → (ℤ → Option E) → ℕ
    → Leaving (List (List ℕ × EnumValue E))
closed_text_map place = closed_map_of place (slice_cmp nat_cmp) string

abbrev pub closed_unsigned_map : {E : Type 0} → ℕ → Form → ValueMap ℕ → (E → ℤ) → (ℤ → Option E)
    → ℕ → Leaving (List (ℕ × EnumValue E))
closed_unsigned_map place form values = closed_map_of place nat_cmp (numeric form values)

abbrev pub closed_signed_map : {E : Type 0} → ℕ → Form → ValueMap ℤ → (E → ℤ) → (ℤ → Option E)
    → ℕ → Leaving (List (ℤ × EnumValue E))
closed_signed_map place form values = closed_map_of place int_cmp (numeric form values)

abbrev pub closed_bool_map : {E : Type 0} → ℕ → (E → ℤ) → (ℤ → Option E) → ℕ
    → Leaving (List (Bool × EnumValue E))
closed_bool_map place = closed_map_of place bool_cmp (numeric Varint bool)
