-- Scalar types whose values stand on the wire as numbers.
use Rattle.std.proofs.Common.{◌≡◌, ap, ◌∙◌, sym}
use Rattle.std.specs.Prelude.{ℕ, ◌+◌, ◌-◌, ◌^◌, min, ◌==◌, length, List}
use Rattle.wire_codec.specs.Field.{Payload, varint, fixed64, fixed32}
use Rattle.wire_codec.specs.Read.{Reads}
use Rattle.wire_codec.specs.Records.{Records, none, field, of_payload}
use Rattle.wire_codec.specs.Spells.{IsPayload}
use Rattle.wire_codec.specs.Tag.{tag_text}
use Rattle.wire_codec.specs.ValueMap.{ValueMap}
use Rattle.wire_codec.specs.Varint.{shortest_varint}
use Rattle.wire_codec.specs.WireType.{WireType}
use Rattle.wire_codec.specs.WireType.TheVariants.{LengthDelimited}
use Rattle.wire_fields.specs.declared.form.Form.{Form}
use Rattle.wire_fields.specs.declared.form.Form.TheVariants.{Varint, Fixed64, Fixed32}
use Rattle.wire_fields.specs.Scalar.{ScalarType}

-- a number as a payload of this form
abbrev pub number_payload : Form → ℕ → Payload
number_payload Varint x = varint x
number_payload Fixed64 x = fixed64 x
number_payload Fixed32 x = fixed32 x

-- its record
abbrev pub number_record : Form → ℕ → ℕ → Records
number_record form n x = field n (of_payload (number_payload form x)) none

pub one_number : (form : Form) (p : Payload) (x y : ℕ) → p ≡ number_payload form x
    → p ≡ number_payload form y → x ≡ y
one_number Varint p x y h k = cc
one_number Fixed64 p x y h k = cc
one_number Fixed32 p x y h k = cc

-- the payload is a number of this form, and the value is what is read from it
pub record SetsNumber {T : Type 0} (form : Form) (map : ValueMap T) (p : Payload) (v : T)
    : Type 0 where
  pub number : ℕ
  pub has : p ≡ number_payload form number
  pub is : v ≡ map.dec number

-- a type of numbers; its default is what is read from 0
abbrev pub numeric : {T : Type 0} → Form → ValueMap T → ScalarType T
numeric form map = record {
  default = map.dec 0;
  is_default = λ v. map.enc v == 0;
  payload = λ v. number_payload form (map.enc v);
  Sets = SetsNumber form map;
  one = λ p v w h k. h.is ∙ ap map.dec (one_number form p h.number k.number h.has k.has) ∙ sym k.is;
}

-- behind a tag (n, w) a payload with this number stands at the front of old, and new is what
-- follows
pub record ReadsNumber (form : Form) (n : ℕ) (w : WireType) (x : ℕ) (old new : List ℕ) : Type 0 where
  pub payload : Payload
  pub has : payload ≡ number_payload form x
  pub read : Reads old (IsPayload n w payload) new

-- no such payload stands there, of whatever number
abbrev pub NoNumber : Form → ℕ → WireType → List ℕ → Type 0
NoNumber form n w old = (x : ℕ) (new : List ℕ) → ReadsNumber form n w x old new → ⊥

-- ---- lengths

-- a length, or the greatest number of 64 bits where it is more
abbrev pub in_64_bits : ℕ → ℕ
in_64_bits n = min n (2 ^ 64 - 1)

-- how many bytes a field takes whose payload has so many
abbrev pub delimited_size : ℕ → ℕ → ℕ
delimited_size n len = length (tag_text n LengthDelimited) + (length (shortest_varint len) + len)
