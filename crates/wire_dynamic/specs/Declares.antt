-- What a descriptor set declares: message types and enums, at whatever level they stand, and
-- extensions, each with its full name and its features.
use Rattle.std.specs.Prelude.{◌≡◌, ℕ, ◌+◌, ◌≤◌, List, [], ◌∷◌, ◌++◌, Option, None, Some, All, codes, flat_map, map, string_bytes}
use Rattle.std.specs.Prelude.{Box, box_value}
use Rattle.std.specs.List.{AllZip}
use Rattle.std.specs.declared.alloc.Global.{Global}
use Rattle.wire_fields.specs.Shape.{DecodesAs}
use Rattle.wire_descriptor.specs.declared.descriptor_proto.DescriptorProto.{DescriptorProto}
use Rattle.wire_descriptor.specs.declared.enum_descriptor_proto.EnumDescriptorProto.{EnumDescriptorProto}
use Rattle.wire_descriptor.specs.declared.enum_options.EnumOptions.{EnumOptions}
use Rattle.wire_descriptor.specs.declared.field_descriptor_proto.FieldDescriptorProto.{FieldDescriptorProto}
use Rattle.wire_descriptor.specs.declared.file_descriptor_proto.FileDescriptorProto.{FileDescriptorProto}
use Rattle.wire_descriptor.specs.declared.file_descriptor_set.FileDescriptorSet.{FileDescriptorSet}
use Rattle.wire_descriptor.specs.declared.message_options.MessageOptions.{MessageOptions}
use Rattle.wire_descriptor.specs.DescriptorProto.{descriptor_proto-shape, descriptor_proto-value}
use Rattle.wire_descriptor.specs.EnumDescriptorProto.{enum_descriptor_proto-value}
use Rattle.wire_descriptor.specs.FieldDescriptorProto.{field_descriptor_proto-value}
use Rattle.wire_dynamic.specs.declared.declared.Declared.{Declared}
use Rattle.wire_dynamic.specs.declared.declared.DeclaredEnum.{DeclaredEnum}
use Rattle.wire_dynamic.specs.declared.declared.DeclaredExtension.{DeclaredExtension}
use Rattle.wire_dynamic.specs.declared.declared.DeclaredMessage.{DeclaredMessage}
use Rattle.wire_dynamic.specs.declared.features.Features.{Features}
use Rattle.wire_dynamic.specs.Features.{features_with, file_features}

-- ---- names and features

-- the full name of what stands in a package or a message type of this full name
abbrev pub full_name : List ℕ → List ℕ → List ℕ
full_name scope name = scope ++ (codes "." ++ name)

-- the full name of a package, or nothing where a file has none
abbrev pub scope_of : List ℕ → List ℕ
scope_of [] = []
scope_of (c ∷ cs) = full_name [] (c ∷ cs)

-- the features of a message type and of an enum, within those of what it stands in
abbrev pub message_features : Features → Option (Box MessageOptions Global) → Features
message_features outer None = outer
message_features outer (Some options) = features_with outer (box_value options).features

abbrev pub enum_features : Features → Option (Box EnumOptions Global) → Features
enum_features outer None = outer
enum_features outer (Some options) = features_with outer (box_value options).features

-- ---- message types

-- a message type that stands in so many others, and in a package or a message type of this full
-- name and these features
pub record IsMessageIn (scope : List ℕ) (outer : Features) (depth : ℕ) (m : DeclaredMessage)
    : Type 0 where
  pub named : string_bytes m.name ≡ full_name scope (string_bytes m.descriptor.name)
  pub features : m.features ≡ message_features outer m.descriptor.options
  pub level : m.level ≡ depth

-- a message type that a file of these features declares by itself
pub record IsOutermost (file : FileDescriptorProto) (features : Features) (d : DescriptorProto)
    (m : DeclaredMessage) : Type 0 where
  pub descriptor : descriptor_proto-value m.descriptor ≡ descriptor_proto-value d
  pub declared : IsMessageIn (scope_of (string_bytes file.package)) features 0 m

-- the message type nested in another that these bytes are
pub record IsNestedIn (outer : DeclaredMessage) (bytes : List ℕ) (m : DeclaredMessage)
    : Type 0 where
  pub descriptor : DecodesAs descriptor_proto-shape bytes (descriptor_proto-value m.descriptor)
  pub declared : IsMessageIn (string_bytes outer.name) outer.features (outer.level + 1) m

-- all that are nested in a message type, one for each of the bytes in its descriptor
abbrev pub AreNestedIn : DeclaredMessage → List DeclaredMessage → Type 0
AreNestedIn outer nested =
    AllZip (λ bytes m. IsNestedIn outer bytes.items m) outer.descriptor.nested_type.items nested

-- message types, each behind those that are nested in it, at whatever level
pub data AllOf : List DeclaredMessage → List DeclaredMessage → Type 0 where
  none : AllOf [] []
  one : {m : DeclaredMessage} {nested within others behind : List DeclaredMessage}
      → AreNestedIn m nested → AllOf nested within → AllOf others behind
      → AllOf (m ∷ others) (within ++ m ∷ behind)

-- it stands in no more than 100 others
abbrev pub IsShallow : DeclaredMessage → Type 0
IsShallow m = m.level ≤ 100

-- ---- enums and extensions

-- a descriptor, with the full name and the features of what it stands in
pub record Standing (D : Type 0) : Type 0 where
  pub scope : List ℕ
  pub outer : Features
  pub descriptor : D

abbrev pub at_descriptor : {D : Type 0} → List ℕ → Features → D → Standing D
at_descriptor scope outer d = record { scope = scope; outer = outer; descriptor = d }

abbrev pub standing : {D : Type 0} → List ℕ → Features → List D → List (Standing D)
standing scope outer ds = map (at_descriptor scope outer) ds

pub record IsEnumOf (d : Standing EnumDescriptorProto) (e : DeclaredEnum) : Type 0 where
  pub named : string_bytes e.name ≡ full_name d.scope (string_bytes d.descriptor.name)
  pub descriptor : enum_descriptor_proto-value e.descriptor
      ≡ enum_descriptor_proto-value d.descriptor
  pub features : e.features ≡ enum_features d.outer d.descriptor.options

-- (with the features of what it stands in)
pub record IsExtensionOf (d : Standing FieldDescriptorProto) (x : DeclaredExtension)
    : Type 0 where
  pub named : string_bytes x.name ≡ full_name d.scope (string_bytes d.descriptor.name)
  pub descriptor : field_descriptor_proto-value x.descriptor
      ≡ field_descriptor_proto-value d.descriptor
  pub features : x.features ≡ d.outer

-- those that stand in a message type
abbrev pub own_enums : DeclaredMessage → List (Standing EnumDescriptorProto)
own_enums m = standing (string_bytes m.name) m.features m.descriptor.enum_type.items

abbrev pub own_extensions : DeclaredMessage → List (Standing FieldDescriptorProto)
own_extensions m = standing (string_bytes m.name) m.features m.descriptor.extension.items

-- ---- files, and sets of them

-- what is declared in some place
pub record Parts : Type 0 where
  pub messages : List DeclaredMessage
  pub enums : List DeclaredEnum
  pub extensions : List DeclaredExtension

-- all that a file declares: the enums are its own, and then those of each message type, and so are
-- the extensions
pub record FileDeclares (file : FileDescriptorProto) (parts : Parts) : Type 0 where
  pub features : Features
  pub known : file_features file ≡ Some features
  pub outermost : List DeclaredMessage
  pub own : AllZip (IsOutermost file features) file.message_type.items outermost
  pub messages : AllOf outermost parts.messages
  pub enums : AllZip IsEnumOf
      (standing (scope_of (string_bytes file.package)) features file.enum_type.items
      ++ flat_map own_enums parts.messages) parts.enums
  pub extensions : AllZip IsExtensionOf
      (standing (scope_of (string_bytes file.package)) features file.extension.items
      ++ flat_map own_extensions parts.messages) parts.extensions

-- all that files declare, one file after another; no message type stands in more than 100 others
pub record FilesDeclare (files : List FileDescriptorProto) (declared : Declared) : Type 0 where
  pub parts : List Parts
  pub each : AllZip FileDeclares files parts
  pub messages : declared.messages.items ≡ flat_map (λ p. p.messages) parts
  pub enums : declared.enums.items ≡ flat_map (λ p. p.enums) parts
  pub extensions : declared.extensions.items ≡ flat_map (λ p. p.extensions) parts
  pub levels : All IsShallow declared.messages.items

abbrev pub IsDeclaredBy : FileDescriptorSet → Declared → Type 0
IsDeclaredBy set declared = FilesDeclare set.file.items declared
