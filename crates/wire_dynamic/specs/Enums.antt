-- An enum as it is declared.
use Rattle.std.specs.Prelude.{◌≡◌, ℕ, ℤ, Bool, List, string_bytes}
use Rattle.std.specs.Ordering.{int_cmp, int_eq}
use Rattle.std.specs.BTreeMap.{get, get_by_text}
use Rattle.std.specs.Str.{bytes_eq}
use Rattle.wire_descriptor.specs.declared.enum_value_descriptor_proto.EnumValueDescriptorProto.{EnumValueDescriptorProto}
use Rattle.wire_dynamic.specs.declared.declared.DeclaredEnum.{DeclaredEnum}
use Rattle.wire_dynamic.specs.declared.enum_type.EnumType.{EnumType}
use Rattle.wire_dynamic.specs.Features.{is_closed}
use Rattle.wire_dynamic.specs.Table.{IsTableOf}

abbrev pub value_has_number : ℤ → EnumValueDescriptorProto → Bool
value_has_number n v = int_eq v.number n

abbrev pub value_has_name : List ℕ → EnumValueDescriptorProto → Bool
value_has_name name v = bytes_eq name (string_bytes v.name)

-- at each number the enum has the name of the first value that is declared with it, and at each
-- name the number
pub record IsEnum (e : DeclaredEnum) (t : EnumType) : Type 0 where
  pub named : string_bytes t.name ≡ string_bytes e.name
  pub closed : t.is_closed ≡ is_closed e.features
  pub names : IsTableOf value_has_number (λ v name. string_bytes name ≡ string_bytes v.name)
      e.descriptor.value.items (get int_cmp t.names)
  pub numbers : IsTableOf value_has_name (λ v number. number ≡ v.number)
      e.descriptor.value.items (get_by_text t.numbers)
