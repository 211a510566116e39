-- Refusals of a whole, by those of its parts.
use Rattle.std.specs.Prelude.{◌≡◌, ◌≢◌, ℕ, List, Contains, string_bytes}
use Rattle.std.proofs.Common.{inr, refl, subst, sym}
use Rattle.wire_base.specs.declared.error.DecodeError.{DecodeError}
use Rattle.wire_base.specs.declared.error.DecodeError.TheVariants as decode
use Rattle.wire_descriptor.specs.declared.field_descriptor_proto.FieldDescriptorProto.{FieldDescriptorProto}
use Rattle.wire_dynamic.specs.declared.declared.Declared.{Declared}
use Rattle.wire_dynamic.specs.declared.declared.DeclaredExtension.{DeclaredExtension}
use Rattle.wire_dynamic.specs.declared.declared.DeclaredMessage.{DeclaredMessage}
use Rattle.wire_dynamic.specs.declared.error.SchemaError.{SchemaError}
use Rattle.wire_dynamic.specs.declared.error.SchemaError.TheVariants as errors
use Rattle.wire_dynamic.specs.declared.features.Features.{Features}
use Rattle.wire_dynamic.specs.declared.places.Places.{Places}
use Rattle.wire_dynamic.specs.Fields.{field_features, own_features}
use Rattle.wire_dynamic.specs.Errors.{decode_failed}
use Rattle.wire_dynamic.specs.Refusals.{ExtensionFault, FieldFault, OwnFault, SaysNoSet}

says_cases : (error : DecodeError) → decode_failed error ≢ errors.OutOfMemory
    → SaysNoSet (decode_failed error)
says_cases decode.OutOfMemory other = absurd (other refl)
says_cases error other = tt

-- what is told of bytes that are no set
pub no_set : (error : DecodeError) (e : SchemaError) → e ≡ decode_failed error
    → e ≢ errors.OutOfMemory → SaysNoSet e
no_set error e is =
    subst (λ x. x ≢ errors.OutOfMemory → SaysNoSet x) (sym is) (says_cases error)

module _ (declared : Declared) (places : Places) where
  own_cases : (m : DeclaredMessage) (d : FieldDescriptorProto) (e : SchemaError)
      → Contains m.descriptor.field.items d
      → FieldFault declared places (own_features m d) (string_bytes d.name) d e
      → OwnFault declared places m e
  own_cases m d (errors.NumberTwice field) own fault = absurd fault.0
  own_cases m d e own fault = (d, own, fault)

  pub own_fault : (m : DeclaredMessage) (d : FieldDescriptorProto) (name : List ℕ)
      (features : Features) (e : SchemaError) → Contains m.descriptor.field.items d
      → name ≡ string_bytes d.name → features ≡ own_features m d
      → FieldFault declared places features name d e → OwnFault declared places m e
  own_fault m d name features e own same is fault =
      own_cases m d e own
      (subst (λ n. FieldFault declared places (own_features m d) n d e) same
      (subst (λ q. FieldFault declared places q name d e) is fault))

  extension_cases : (x : DeclaredExtension) (e : SchemaError)
      → Contains declared.extensions.items x
      → FieldFault declared places (field_features x.features x.descriptor.options)
      (string_bytes x.name) x.descriptor e
      → ExtensionFault declared places e
  extension_cases x (errors.NumberTwice field) own fault = absurd fault.0
  extension_cases x e own fault = (x, own, inr fault)

  pub extension_fault : (x : DeclaredExtension) (name : List ℕ) (features : Features)
      (e : SchemaError) → Contains declared.extensions.items x → name ≡ string_bytes x.name
      → features ≡ field_features x.features x.descriptor.options
      → FieldFault declared places features name x.descriptor e
      → ExtensionFault declared places e
  extension_fault x name features e own same is fault =
      extension_cases x e own
      (subst (λ n. FieldFault declared places (field_features x.features x.descriptor.options) n
      x.descriptor e) same
      (subst (λ q. FieldFault declared places q name x.descriptor e) is fault))
