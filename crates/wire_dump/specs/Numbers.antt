-- Numbers of the kinds of a schema, and their texts.
use Rattle.std.specs.Prelude.{◌≡◌, ℕ, ℤ, ◌<◌, ◌%◌, ◌^◌, Bool, true, false, ◌&&◌, not, nat_lt, List, Option, None, Some, option_map, option_and_then, is_some, codes, decimal, from_bits, string_bytes, if◌then◌else◌}
use Rattle.std.specs.Float.{Format, binary32, binary64}
use Rattle.std.specs.Float.Parse.{parse_float}
use Rattle.std.specs.Fmt.{signed_decimal}
use Rattle.std.specs.BTreeMap.{get}
use Rattle.std.specs.Int.{w32, w64}
use Rattle.std.specs.Option.{option_map_or}
use Rattle.std.specs.Ordering.{int_cmp}
use Rattle.wire_base.specs.declared.tag.WireType.{WireType}
use Rattle.wire_base.specs.declared.tag.WireType.TheVariants as wire_types
use Rattle.wire_base.specs.Field.{Payload, varint, fixed64, fixed32, bytes, group}
use Rattle.wire_base.specs.Fixed.{IsFixed}
use Rattle.wire_base.specs.Varint.{IsSpelling}
use Rattle.wire_scalar.specs.ValueMap.{bool, int32, int64, sint32, sint64, uint32}
use Rattle.wire_dynamic.specs.declared.field.Kind.{Kind}
use Rattle.wire_dynamic.specs.declared.field.Kind.TheVariants as kinds
use Rattle.wire_dynamic.specs.declared.schema.Schema.{Schema}
use Rattle.wire_dynamic.specs.Schemas.{enum_at}

-- the wire type of numbers of a kind, where it is one of numbers
abbrev pub number_type : Kind → Option WireType
number_type kinds.Double = Some wire_types.Fixed64
number_type kinds.Fixed64 = Some wire_types.Fixed64
number_type kinds.Sfixed64 = Some wire_types.Fixed64
number_type kinds.Float = Some wire_types.Fixed32
number_type kinds.Fixed32 = Some wire_types.Fixed32
number_type kinds.Sfixed32 = Some wire_types.Fixed32
number_type kinds.Text = None
number_type kinds.Blob = None
number_type (kinds.Message place) = None
number_type (kinds.Group place) = None
number_type _ = Some wire_types.Varint

-- the text is a number of this wire type
abbrev pub IsNumber : WireType → ℕ → List ℕ → Type 0
IsNumber wire_types.Varint x text = IsSpelling x text
IsNumber wire_types.Fixed64 x text = IsFixed w64 x text
IsNumber wire_types.Fixed32 x text = IsFixed w32 x text
IsNumber _ x text = ⊥

-- the number of a record that is no group and has no length
abbrev pub number_in : Payload → Option ℕ
number_in (varint x) = Some x
number_in (fixed64 x) = Some x
number_in (fixed32 x) = Some x
number_in (bytes b) = None
number_in (group fs) = None

-- ---- enums

-- the name of a number of the enum at a place
abbrev pub value_name : Schema → ℕ → ℤ → Option (List ℕ)
value_name s place v =
    option_and_then (λ e. option_map string_bytes (get int_cmp e.names v)) (enum_at s place)

abbrev pub is_closed_at : Schema → ℕ → Bool
is_closed_at s place = option_map_or (λ e. e.is_closed) (enum_at s place) false

-- whether a number is a value of its kind: a closed enum has no others than those that are named
abbrev pub is_known : Schema → Kind → ℕ → Bool
is_known s (kinds.Enum place) x =
    not (is_closed_at s place && not (is_some (value_name s place (int32.dec x))))
is_known s _ x = true

-- ---- texts

-- the text of the float of these bits: of infinity, of what is no number, and of any other a text
-- that is read back as the very float of the bits, the sign of a zero too
abbrev pub IsFloat : Format → ℕ → ℕ → ℕ → List ℕ → Type 0
IsFloat format sign infinity bits text =
    (bits % sign ≡ infinity
    → text ≡ (if nat_lt bits sign then codes "inf" else codes "-inf"))
    × (infinity < bits % sign → text ≡ codes "nan")
    × (bits % sign < infinity → parse_float format text ≡ Some (from_bits format bits))

-- the text of a number of a kind, which of 32 bits is in the low ones
abbrev pub ShowsNumber : Schema → Kind → ℕ → List ℕ → Type 0
ShowsNumber s kinds.Double x text = IsFloat binary64 (2 ^ 63) 9218868437227405312 x text
ShowsNumber s kinds.Float x text = IsFloat binary32 (2 ^ 31) 2139095040 (uint32.dec x) text
ShowsNumber s kinds.Int64 x text = text ≡ signed_decimal (int64.dec x)
ShowsNumber s kinds.Uint64 x text = text ≡ decimal x
ShowsNumber s kinds.Int32 x text = text ≡ signed_decimal (int32.dec x)
ShowsNumber s kinds.Fixed64 x text = text ≡ decimal x
ShowsNumber s kinds.Fixed32 x text = text ≡ decimal x
ShowsNumber s kinds.Bool x text = text ≡ (if bool.dec x then codes "true" else codes "false")
ShowsNumber s kinds.Uint32 x text = text ≡ decimal (uint32.dec x)
ShowsNumber s (kinds.Enum place) x text =
    text ≡ option_map_or (λ name. name) (value_name s place (int32.dec x))
    (signed_decimal (int32.dec x))
ShowsNumber s kinds.Sfixed32 x text = text ≡ signed_decimal (int32.dec x)
ShowsNumber s kinds.Sfixed64 x text = text ≡ signed_decimal (int64.dec x)
ShowsNumber s kinds.Sint32 x text = text ≡ signed_decimal (sint32.dec x)
ShowsNumber s kinds.Sint64 x text = text ≡ signed_decimal (sint64.dec x)
ShowsNumber s _ x text = ⊥
