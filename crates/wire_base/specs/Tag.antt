-- Tags: the varint of eight times a field number and a wire type.
use Rattle.std.specs.Prelude.{◌≡◌, ℕ, ◌+◌, ◌*◌, ◌%◌, ◌^◌, List, Option, Some, None, nat_lt, nat_le, if◌then◌else◌}
use Rattle.wire_base.specs.declared.error.DecodeError.{DecodeError}
use Rattle.wire_base.specs.declared.error.DecodeError.TheVariants.{InvalidWireType, InvalidFieldNumber}
use Rattle.wire_base.specs.declared.tag.WireType.{WireType}
use Rattle.wire_base.specs.declared.tag.WireType.TheVariants.{Varint, Fixed64, LengthDelimited, StartGroup, EndGroup, Fixed32}
use Rattle.wire_base.specs.FieldNumber.{IsFieldNumber}
use Rattle.wire_base.specs.Read.{Reads}
use Rattle.wire_base.specs.Varint.{IsSpelling, VarintFault, shortest_varint}

-- a wire type as it stands in the low three bits of a tag
abbrev pub wire_number : WireType → ℕ
wire_number Varint = 0
wire_number Fixed64 = 1
wire_number LengthDelimited = 2
wire_number StartGroup = 3
wire_number EndGroup = 4
wire_number Fixed32 = 5

-- a field number and a wire type as one number
abbrev pub tag_value : ℕ → WireType → ℕ
tag_value n w = 8 * n + wire_number w

-- the text is a tag of field number n and wire type w, padded or not
pub record IsTagSpelling (n : ℕ) (w : WireType) (text : List ℕ) : Type 0 where
  pub number : IsFieldNumber n
  pub varint : IsSpelling (tag_value n w) text

-- the shortest text of a tag
abbrev pub tag_text : ℕ → WireType → List ℕ
tag_text n w = shortest_varint (tag_value n w)

-- why a number is no tag, if it is none
abbrev pub tag_error : ℕ → Option DecodeError
tag_error v =
    if nat_le (2 ^ 32) v then Some InvalidFieldNumber
    else (if nat_le 6 (v % 8) then Some (InvalidWireType (v % 8))
    else (if nat_lt v 8 then Some InvalidFieldNumber else None))

-- no tag stands at the front of these bytes, with the error that says why
pub data TagFault : List ℕ → DecodeError → Type 0 where
  no_varint : {bytes : List ℕ} {e : DecodeError} → VarintFault bytes e → TagFault bytes e
  no_tag : {bytes : List ℕ} {e : DecodeError} (v : ℕ) (rest : List ℕ)
      → Reads bytes (IsSpelling v) rest
      → tag_error v ≡ Some e → TagFault bytes e
