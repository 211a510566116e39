-- A `Person` as contracts see it, its records, and what it makes of a record.
use Rattle.std.specs.Prelude.{◌≡◌, ◌≢◌, ℤ, pos, ℕ, List, [], string_bytes}
use Rattle.std.specs.Prelude.{All, FitsSigned, IsUtf8}
use Rattle.std.specs.Int.{w32}
use Rattle.wire_codec.specs.Charge.{payload_charge}
use Rattle.wire_codec.specs.Field.{Payload, Fields, push}
use Rattle.wire_codec.specs.Limits.{Charge, no_charge}
use Rattle.wire_codec.specs.Records.{Records, joined_records, of_fields}
use Rattle.wire_samples.specs.declared.person.Person.{Person}
use Rattle.wire_samples.specs.FieldRecords.{int32_field, bytes_field, packed_int32_field}
use Rattle.wire_samples.specs.Kept.{AreUnknown}
use Rattle.wire_samples.specs.FieldSteps.{SetsInt32, SetsText, AppendsInt32}

pub record PersonValue : Type 0 where
  pub id : ℤ
  pub name : List ℕ
  pub scores : List ℤ
  pub unknown : Fields

abbrev pub person_value : Person → PersonValue
person_value m = record {
  id = m.id;
  name = string_bytes m.name;
  scores = m.scores.items;
  unknown = m.unknown;
}

abbrev pub default_person : PersonValue
default_person = record { id = pos 0; name = []; scores = []; unknown = Fields.none }

-- in the order of the numbers, and the unknown fields behind
abbrev pub person_records : PersonValue → Records
person_records p =
    joined_records (int32_field 1 p.id)
    (joined_records (bytes_field 2 p.name)
    (joined_records (packed_int32_field 3 p.scores) (of_fields p.unknown)))

-- the same person but for one field
abbrev pub with_id : PersonValue → ℤ → PersonValue
with_id m id = record { id = id; name = m.name; scores = m.scores; unknown = m.unknown }

abbrev pub with_name : PersonValue → List ℕ → PersonValue
with_name m name = record { id = m.id; name = name; scores = m.scores; unknown = m.unknown }

abbrev pub with_scores : PersonValue → List ℤ → PersonValue
with_scores m scores = record { id = m.id; name = m.name; scores = scores; unknown = m.unknown }

abbrev pub with_others : PersonValue → Fields → PersonValue
with_others m unknown = record { id = m.id; name = m.name; scores = m.scores; unknown = unknown }

-- a record of a number that the type knows is for that field, and another is kept and charged
pub data PersonTakes (m : PersonValue) (n : ℕ) (p : Payload) (c : Charge) (z : PersonValue)
    : Type 0 where
  id : (v : ℤ) → n ≡ 1 → SetsInt32 p v → c ≡ no_charge → z ≡ with_id m v
      → PersonTakes m n p c z
  name : (text : List ℕ) → n ≡ 2 → SetsText p text → c ≡ no_charge → z ≡ with_name m text
      → PersonTakes m n p c z
  scores : (after : List ℤ) → n ≡ 3 → AppendsInt32 m.scores p after → c ≡ no_charge
      → z ≡ with_scores m after → PersonTakes m n p c z
  unknown : n ≢ 1 → n ≢ 2 → n ≢ 3 → c ≡ payload_charge p
      → z ≡ with_others m (push m.unknown n p) → PersonTakes m n p c z

-- the number is none that the type knows
abbrev pub IsPersonOther : ℕ → Type 0
IsPersonOther n = (n ≢ 1) × (n ≢ 2) × (n ≢ 3)

-- the values that a `Person` of Rust has, with unknown fields as decoding leaves them
pub record IsPerson (m : PersonValue) : Type 0 where
  pub id : FitsSigned w32 m.id
  pub name : IsUtf8 m.name
  pub scores : All (FitsSigned w32) m.scores
  pub unknown : AreUnknown IsPersonOther m.unknown
