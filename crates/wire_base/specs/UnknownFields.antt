-- Unknown fields as records.
use Rattle.std.specs.Prelude.{List, [], ◌∷◌}
use Rattle.wire_base.specs.declared.unknown_fields.UnknownField.{UnknownField}
use Rattle.wire_base.specs.declared.unknown_fields.UnknownFieldData.{UnknownFieldData}
use Rattle.wire_base.specs.declared.unknown_fields.UnknownFieldData.TheVariants.{Varint, Fixed64, Fixed32, LengthDelimited, Group}
use Rattle.wire_base.specs.Field.{Payload, varint, fixed64, fixed32, bytes, group, Fields, none, field}

abbrev pub payload_of : UnknownFieldData → Payload
payload_of (Varint v) = varint v
payload_of (Fixed64 v) = fixed64 v
payload_of (Fixed32 v) = fixed32 v
payload_of (LengthDelimited b) = bytes b.items
payload_of (Group fs) = group fs

abbrev pub fields_of : List UnknownField → Fields
fields_of [] = none
fields_of (f ∷ fs) = field f.number (payload_of f.value) (fields_of fs)

-- a record of its own
abbrev pub one_record : UnknownField → Fields
one_record f = field f.number (payload_of f.value) none
