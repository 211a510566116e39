-- A schema, and what it has of what is declared.
use Rattle.std.specs.Prelude.{ℕ, List, Option, option_and_then, slice_get}
use Rattle.std.specs.Option.{option_or}
use Rattle.std.specs.Ordering.{nat_cmp}
use Rattle.std.specs.BTreeMap.{get, get_by_text}
use Rattle.std.specs.List.{AllZip}
use Rattle.wire_fields.specs.Shape.{DecodesAs}
use Rattle.wire_descriptor.specs.declared.file_descriptor_set.FileDescriptorSet.{FileDescriptorSet}
use Rattle.wire_descriptor.specs.FileDescriptorSet.{file_descriptor_set-shape, file_descriptor_set-value}
use Rattle.wire_dynamic.specs.declared.declared.Declared.{Declared}
use Rattle.wire_dynamic.specs.declared.enum_type.EnumType.{EnumType}
use Rattle.wire_dynamic.specs.declared.field.Field.{Field}
use Rattle.wire_dynamic.specs.declared.message_type.MessageType.{MessageType}
use Rattle.wire_dynamic.specs.declared.schema.Schema.{Schema}
use Rattle.wire_dynamic.specs.Declares.{IsDeclaredBy}
use Rattle.wire_dynamic.specs.Enums.{IsEnum}
use Rattle.wire_dynamic.specs.Extensions.{extends, place_cmp, IsExtension}
use Rattle.wire_dynamic.specs.Messages.{own_field_named, IsAsDeclared}
use Rattle.wire_dynamic.specs.Places.{ArePlaces}
use Rattle.wire_dynamic.specs.Table.{IsTableOf}

-- the message type at a place, and the enum
abbrev pub type_at : Schema → ℕ → Option MessageType
type_at s place = slice_get s.messages.items place

abbrev pub enum_at : Schema → ℕ → Option EnumType
enum_at s place = slice_get s.enums.items place

-- the place of the message type of this full name
abbrev pub message_place : Schema → List ℕ → Option ℕ
message_place s name = get_by_text s.places.messages name

-- the field of this number of the message type at this place: its own, or else an extension
abbrev pub field_of : Schema → ℕ → ℕ → Option Field
field_of s place n = option_and_then
    (λ m. option_or (get nat_cmp m.fields n) (get place_cmp s.extensions (place, n)))
    (type_at s place)

-- the field of this name that the message type at this place has of its own
abbrev pub field_named : Schema → ℕ → List ℕ → Option Field
field_named s place name = option_and_then (λ m. own_field_named m name) (type_at s place)

-- all that is declared, and nothing else
pub record IsSchema (declared : Declared) (s : Schema) : Type 0 where
  pub places : ArePlaces declared s.places
  pub messages : AllZip (IsAsDeclared declared s.places) declared.messages.items s.messages.items
  pub enums : AllZip IsEnum declared.enums.items s.enums.items
  pub extensions : IsTableOf (extends s.places) (IsExtension declared s.places)
      declared.extensions.items (get place_cmp s.extensions)

-- the schema of what a set declares
pub record IsSchemaOf (set : FileDescriptorSet) (s : Schema) : Type 0 where
  pub declared : Declared
  pub from_set : IsDeclaredBy set declared
  pub schema : IsSchema declared s

-- the schema of the set that bytes are
pub record IsDecodedSchema (bytes : List ℕ) (s : Schema) : Type 0 where
  pub set : FileDescriptorSet
  pub decoded : DecodesAs file_descriptor_set-shape bytes (file_descriptor_set-value set)
  pub schema : IsSchemaOf set s
