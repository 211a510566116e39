-- A group counts more than the records in it: what a recursion into unknown fields goes by.
use Rattle.std.specs.Prelude.{◌≤◌, List, [], ◌∷◌}
use Rattle.std.proofs.Common.{arith}
use denote.Param.Weighed.{most}
use Rattle.wire_base.specs.declared.unknown_fields.UnknownField.{UnknownField}
use Rattle.wire_base.specs.declared.unknown_fields.UnknownFieldData.{UnknownFieldData}
use Rattle.wire_base.specs.declared.unknown_fields.UnknownFieldData.TheVariants.{Varint, Fixed64, Fixed32, LengthDelimited, Group}
use Rattle.wire_base.specs.declared.unknown_fields.UnknownFields.TheDeep.{deep-UnknownField, deep-UnknownFieldData}
use Rattle.wire_base.specs.Charge.{payload_count, count}
use Rattle.wire_base.specs.UnknownFields.{payload_of, fields_of}

pub data_le-count : (v : UnknownFieldData) → deep-UnknownFieldData v ≤ payload_count (payload_of v)
data_le-count (Varint v) = omega arith
data_le-count (Fixed64 v) = omega arith
data_le-count (Fixed32 v) = omega arith
data_le-count (LengthDelimited b) = omega arith
data_le-count (Group fs) = omega arith

-- no group counts more than all of the list
pub most_le-count : (fs : List UnknownField)
    → most (λ f. deep-UnknownField f) fs ≤ count (fields_of fs)
most_le-count [] = omega arith
most_le-count (f ∷ fs) = omega (arith, data_le-count f.value, most_le-count fs)
