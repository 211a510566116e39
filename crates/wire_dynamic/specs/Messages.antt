-- A message type as it is declared.
use Rattle.std.specs.Prelude.{◌≡◌, ℕ, List, Option, option_and_then, string_bytes}
use Rattle.std.specs.Ordering.{nat_cmp}
use Rattle.std.specs.BTreeMap.{get, get_by_text}
use Rattle.wire_descriptor.specs.declared.field_descriptor_proto.FieldDescriptorProto.{FieldDescriptorProto}
use Rattle.wire_dynamic.specs.declared.declared.Declared.{Declared}
use Rattle.wire_dynamic.specs.declared.declared.DeclaredMessage.{DeclaredMessage}
use Rattle.wire_dynamic.specs.declared.field.Field.{Field}
use Rattle.wire_dynamic.specs.declared.message_type.MessageType.{MessageType}
use Rattle.wire_dynamic.specs.declared.places.Places.{Places}
use Rattle.wire_dynamic.specs.Fields.{field_has_name, has_number, is_entry, as_number, own_features, AreNumberedApart, IsField}
use Rattle.wire_dynamic.specs.Table.{IsTableOf}

-- a field of a message type
abbrev pub IsOwnField : Declared → Places → DeclaredMessage → FieldDescriptorProto → Field
    → Type 0
IsOwnField declared places m d f =
    IsField declared places (own_features m d) (string_bytes d.name) d f

-- the field that a type has of its own at this number
abbrev pub own_field : MessageType → ℕ → Option Field
own_field m n = get nat_cmp m.fields n

-- the field that a type has at the number that it has at this name
abbrev pub own_field_named : MessageType → List ℕ → Option Field
own_field_named m name = option_and_then (get nat_cmp m.fields) (get_by_text m.numbers name)

-- No two fields have one number. At each number the type has the first field that is declared with
-- it, and at each name the first with that, by its number.
pub record IsAsDeclared (declared : Declared) (places : Places) (message : DeclaredMessage)
    (m : MessageType) : Type 0 where
  pub named : string_bytes m.name ≡ string_bytes message.name
  pub entry : m.is_entry ≡ is_entry message
  pub apart : AreNumberedApart message.descriptor.field.items
  pub fields : IsTableOf has_number (IsOwnField declared places message)
      message.descriptor.field.items (get nat_cmp m.fields)
  pub numbers : IsTableOf field_has_name (λ d number. number ≡ as_number d.number)
      message.descriptor.field.items (get_by_text m.numbers)
  pub by_name : IsTableOf field_has_name (IsOwnField declared places message)
      message.descriptor.field.items (own_field_named m)
