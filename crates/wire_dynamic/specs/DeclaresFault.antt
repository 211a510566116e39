-- Why what a descriptor set declares is not told.
use Rattle.std.specs.Prelude.{◌≡◌, ℕ, ◌≤◌, List, None, Some, Contains, string_bytes}
use Rattle.std.specs.Prelude.{Vec}
use Rattle.std.specs.declared.alloc.Global.{Global}
use Rattle.wire_fields.specs.Shape.{NotDecodedAs}
use Rattle.wire_descriptor.specs.declared.descriptor_proto.DescriptorProto.{DescriptorProto}
use Rattle.wire_descriptor.specs.declared.file_descriptor_proto.FileDescriptorProto.{FileDescriptorProto}
use Rattle.wire_descriptor.specs.declared.file_descriptor_set.FileDescriptorSet.{FileDescriptorSet}
use Rattle.wire_descriptor.specs.DescriptorProto.{descriptor_proto-shape}
use Rattle.wire_dynamic.specs.declared.declared.DeclaredMessage.{DeclaredMessage}
use Rattle.wire_dynamic.specs.declared.error.SchemaError.{SchemaError}
use Rattle.wire_dynamic.specs.declared.error.SchemaError.TheVariants as errors
use Rattle.wire_dynamic.specs.declared.features.Features.{Features}
use Rattle.wire_dynamic.specs.Declares.{IsNestedIn, IsOutermost}
use Rattle.wire_dynamic.specs.Features.{file_features}

-- a message type is another one, or stands in it at some level
pub data StandsIn : DeclaredMessage → DeclaredMessage → Type 0 where
  itself : {m : DeclaredMessage} → StandsIn m m
  deeper : {outer nested m : DeclaredMessage} (bytes : Vec ℕ Global)
      → Contains outer.descriptor.nested_type.items bytes → IsNestedIn outer bytes.items nested
      → StandsIn nested m → StandsIn outer m

-- these bytes, nested in a message type, are no descriptor, or that stands in 100 others already
abbrev pub NestedFault : DeclaredMessage → List ℕ → SchemaError → Type 0
NestedFault m bytes (errors.NotDecoded e) = NotDecodedAs descriptor_proto-shape bytes
NestedFault m bytes (errors.TooMany name) =
    (string_bytes name ≡ string_bytes m.name) × (100 ≤ m.level)
NestedFault m bytes _ = ⊥

-- there is such a fault in a message type, at whatever level
pub record TypeFault (outer : DeclaredMessage) (e : SchemaError) : Type 0 where
  pub message : DeclaredMessage
  pub stands : StandsIn outer message
  pub bytes : Vec ℕ Global
  pub nested : Contains message.descriptor.nested_type.items bytes
  pub fault : NestedFault message bytes.items e

-- there is such a fault in a message type of a file
pub record IsAtFault (file : FileDescriptorProto) (e : SchemaError) : Type 0 where
  pub features : Features
  pub known : file_features file ≡ Some features
  pub descriptor : DescriptorProto
  pub own : Contains file.message_type.items descriptor
  pub outermost : DeclaredMessage
  pub declared : IsOutermost file features descriptor outermost
  pub fault : TypeFault outermost e

-- a file of a syntax or an edition that is not known, or with such a fault
abbrev pub FileFault : FileDescriptorProto → SchemaError → Type 0
FileFault file (errors.UnknownEdition name) =
    (string_bytes name ≡ string_bytes file.name) × (file_features file ≡ None)
FileFault file e = IsAtFault file e

abbrev pub SetFault : FileDescriptorSet → SchemaError → Type 0
SetFault set e =
    (file : FileDescriptorProto) × Contains set.file.items file × FileFault file e
