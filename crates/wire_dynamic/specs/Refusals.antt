-- Why what is declared has no schema.
use Rattle.std.specs.Prelude.{◌≡◌, ◌⊎◌, ℕ, ℤ, pos, ◌<◌, ◌≤◌, Bool, true, false, ◌||◌, List, None, Contains, count_by, string_bytes}
use Rattle.std.specs.BTreeMap.{get_by_text}
use Rattle.std.specs.Ordering.{int_eq}
use Rattle.wire_fields.specs.Shape.{DecodesAs, NotDecodedAs}
use Rattle.wire_descriptor.specs.FileDescriptorSet.{file_descriptor_set-shape, file_descriptor_set-value}
use Rattle.wire_descriptor.specs.declared.file_descriptor_set.FileDescriptorSet.{FileDescriptorSet}
use Rattle.wire_descriptor.specs.declared.field_descriptor_proto.FieldDescriptorProto.{FieldDescriptorProto}
use Rattle.wire_dynamic.specs.declared.declared.Declared.{Declared}
use Rattle.wire_dynamic.specs.declared.declared.DeclaredExtension.{DeclaredExtension}
use Rattle.wire_dynamic.specs.declared.declared.DeclaredMessage.{DeclaredMessage}
use Rattle.wire_dynamic.specs.declared.error.SchemaError.{SchemaError}
use Rattle.wire_dynamic.specs.declared.error.SchemaError.TheVariants as errors
use Rattle.wire_dynamic.specs.declared.features.Features.{Features}
use Rattle.wire_dynamic.specs.declared.places.Places.{Places}
use Rattle.wire_dynamic.specs.Declares.{IsDeclaredBy}
use Rattle.wire_dynamic.specs.DeclaresFault.{SetFault}
use Rattle.wire_dynamic.specs.Extensions.{extends}
use Rattle.wire_dynamic.specs.Fields.{field_features, has_number, kind_in, as_number, own_features}
use Rattle.wire_dynamic.specs.Places.{enum_has_name, message_has_name, ArePlaces}

-- several of these have the name that the error tells
abbrev pub AreNamedTwice : {D : Type 0} → (List ℕ → D → Bool) → List D → SchemaError → Type 0
AreNamedTwice has_name ds (errors.NameTwice name) = 2 ≤ count_by (has_name (string_bytes name)) ds
AreNamedTwice has_name ds _ = ⊥

-- two message types have one name, or two enums
abbrev pub ArePlacesTwice : Declared → SchemaError → Type 0
ArePlacesTwice declared e = AreNamedTwice message_has_name declared.messages.items e
    ⊎ AreNamedTwice enum_has_name declared.enums.items e

-- no field has this number
abbrev pub IsNoNumber : ℤ → Type 0
IsNoNumber z = (n : ℕ) → z ≡ pos n → 0 < n → n ≤ 536870911 → ⊥

-- whether a field of this type has a name of that: of a group, a message or an enum
abbrev pub names_type : ℤ → Bool
names_type number = int_eq number (pos 10) || (int_eq number (pos 11) || int_eq number (pos 14))

-- the error has the name of the type of a field, where it has one, and the name of the field else
abbrev pub IsWantOfKind : List ℕ → FieldDescriptorProto → SchemaError → Type 0
IsWantOfKind name d (errors.NoKind field) =
    (string_bytes field ≡ name) × (names_type d.type_ ≡ false)
IsWantOfKind name d (errors.NoType named) =
    (string_bytes named ≡ string_bytes d.type_name) × (names_type d.type_ ≡ true)
IsWantOfKind name d _ = ⊥

-- a field of this name and these features has no number, or no kind
abbrev pub FieldFault : Declared → Places → Features → List ℕ → FieldDescriptorProto
    → SchemaError → Type 0
FieldFault declared places features name d (errors.NoNumber field) =
    (string_bytes field ≡ name) × IsNoNumber d.number
FieldFault declared places features name d e =
    IsWantOfKind name d e × (kind_in declared places features d ≡ None)

-- a field of a message type has a fault, or the error the name of one whose number several have
abbrev pub OwnFault : Declared → Places → DeclaredMessage → SchemaError → Type 0
OwnFault declared places m (errors.NumberTwice field) =
    (d : FieldDescriptorProto) × Contains m.descriptor.field.items d
    × (string_bytes field ≡ string_bytes d.name)
    × (2 ≤ count_by (has_number (as_number d.number)) m.descriptor.field.items)
OwnFault declared places m e = (d : FieldDescriptorProto) × Contains m.descriptor.field.items d
    × FieldFault declared places (own_features m d) (string_bytes d.name) d e

-- what an extension extends is not declared
abbrev pub ExtendsNothing : Places → DeclaredExtension → SchemaError → Type 0
ExtendsNothing places x (errors.NoType named) =
    (string_bytes named ≡ string_bytes x.descriptor.extendee)
    × (get_by_text places.messages (string_bytes named) ≡ None)
ExtendsNothing places x _ = ⊥

-- an extension has a fault, or extends nothing, or the error has the name of one whose number
-- several of the same message type have
abbrev pub ExtensionFault : Declared → Places → SchemaError → Type 0
ExtensionFault declared places (errors.NumberTwice field) =
    (x : DeclaredExtension) × Contains declared.extensions.items x
    × (string_bytes field ≡ string_bytes x.name) × (place : ℕ)
    × (extends places (place, as_number x.descriptor.number) x ≡ true)
    × (2 ≤ count_by (extends places (place, as_number x.descriptor.number))
    declared.extensions.items)
ExtensionFault declared places e =
    (x : DeclaredExtension) × Contains declared.extensions.items x
    × (ExtendsNothing places x e
    ⊎ FieldFault declared places (field_features x.features x.descriptor.options)
    (string_bytes x.name) x.descriptor e)

-- a message type has such a fault
abbrev pub MessagesFault : Declared → Places → SchemaError → Type 0
MessagesFault declared places e = (m : DeclaredMessage) × Contains declared.messages.items m
    × OwnFault declared places m e

-- two message types have one name, or two enums; or a message type or the extensions have a fault
pub data SchemaFault (declared : Declared) (e : SchemaError) : Type 0 where
  named_twice : ArePlacesTwice declared e → SchemaFault declared e
  in_message : (places : Places) → ArePlaces declared places → MessagesFault declared places e
      → SchemaFault declared e
  in_extension : (places : Places) → ArePlaces declared places
      → ExtensionFault declared places e → SchemaFault declared e

-- what a set declares is not told, or has no schema
abbrev pub HasNoSchema : FileDescriptorSet → SchemaError → Type 0
HasNoSchema set e = SetFault set e
    ⊎ ((declared : Declared) × IsDeclaredBy set declared × SchemaFault declared e)

-- the error of bytes that are no set
abbrev pub SaysNoSet : SchemaError → Type 0
SaysNoSet (errors.NotDecoded e) = Unit {0}
SaysNoSet _ = ⊥

-- the bytes are no set, or the set that they are has no schema
abbrev pub BytesHaveNoSchema : List ℕ → SchemaError → Type 0
BytesHaveNoSchema bytes e = (NotDecodedAs file_descriptor_set-shape bytes × SaysNoSet e)
    ⊎ ((set : FileDescriptorSet)
    × DecodesAs file_descriptor_set-shape bytes (file_descriptor_set-value set)
    × HasNoSchema set e)
