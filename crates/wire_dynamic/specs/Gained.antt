-- What lists of declarations gain at their ends.
use Rattle.std.specs.Prelude.{◌≡◌, ℕ, List, [], ◌∷◌, ◌++◌, All, flat_map}
use Rattle.std.specs.List.{AllZip}
use Rattle.wire_descriptor.specs.declared.file_descriptor_proto.FileDescriptorProto.{FileDescriptorProto}
use Rattle.wire_dynamic.specs.declared.declared.Declared.{Declared}
use Rattle.wire_dynamic.specs.declared.declared.DeclaredMessage.{DeclaredMessage}
use Rattle.wire_dynamic.specs.declared.features.Features.{Features}
use Rattle.wire_dynamic.specs.Declares.{own_enums, own_extensions, standing, AllOf, FileDeclares, IsEnumOf, IsExtensionOf, IsShallow, Parts, Standing}

-- a list gains, at its end, what is declared by descriptors that stand in a package or a message
-- type of this name and these features
abbrev pub GainsAll : {D E : Type 0} → (Standing D → E → Type 0) → List ℕ → Features → List D
    → List E → List E → Type 0
GainsAll {D} {E} Tells scope outer ds old new =
    (own : List E) × AllZip Tells (standing scope outer ds) own × (new ≡ old ++ own)

-- each list gains one
pub record Gains (parts : Parts) (old new : Declared) : Type 0 where
  pub messages : new.messages.items ≡ old.messages.items ++ parts.messages
  pub enums : new.enums.items ≡ old.enums.items ++ parts.enums
  pub extensions : new.extensions.items ≡ old.extensions.items ++ parts.extensions

-- message types, with all that stands in them; none stands in more than 100 others
pub record AreWithin (outermost : List DeclaredMessage) (parts : Parts) : Type 0 where
  pub messages : AllOf outermost parts.messages
  pub enums : AllZip IsEnumOf (flat_map own_enums parts.messages) parts.enums
  pub extensions : AllZip IsExtensionOf (flat_map own_extensions parts.messages) parts.extensions
  pub levels : All IsShallow parts.messages

abbrev pub GainsMessage : DeclaredMessage → Declared → Declared → Type 0
GainsMessage m old new = (parts : Parts) × AreWithin (m ∷ []) parts × Gains parts old new

abbrev pub GainsFile : FileDescriptorProto → Declared → Declared → Type 0
GainsFile file old new = (parts : Parts) × FileDeclares file parts
    × All IsShallow parts.messages × Gains parts old new
