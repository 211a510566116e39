-- A field as its descriptor tells it.
use Rattle.std.specs.Prelude.{◌≡◌, ◌<◌, ◌≤◌, ℕ, ℤ, pos, negsuc, Bool, false, not, ◌&&◌, ◌||◌, List, [], Option, None, Some, count_by, option_map, nat_eq, string_bytes, slice_get, if◌then◌else◌}
use Rattle.std.specs.Ordering.{int_eq}
use Rattle.std.specs.BTreeMap.{get_by_text}
use Rattle.std.specs.Option.{option_map_or}
use Rattle.std.specs.Str.{bytes_eq}
use Rattle.std.specs.Prelude.{Box, box_value}
use Rattle.std.specs.declared.alloc.Global.{Global}
use Rattle.wire_descriptor.specs.declared.field_descriptor_proto.FieldDescriptorProto.{FieldDescriptorProto}
use Rattle.wire_descriptor.specs.declared.field_options.FieldOptions.{FieldOptions}
use Rattle.wire_descriptor.specs.declared.message_options.MessageOptions.{MessageOptions}
use Rattle.wire_dynamic.specs.declared.declared.Declared.{Declared}
use Rattle.wire_dynamic.specs.declared.declared.DeclaredMessage.{DeclaredMessage}
use Rattle.wire_dynamic.specs.declared.features.Features.{Features}
use Rattle.wire_dynamic.specs.declared.field.Field.{Field}
use Rattle.wire_dynamic.specs.declared.field.Kind.{Kind}
use Rattle.wire_dynamic.specs.declared.field.Kind.TheVariants as kinds
use Rattle.wire_dynamic.specs.declared.places.Places.{Places}
use Rattle.wire_dynamic.specs.Features.{features_with, is_checked, is_delimited, is_legacy_required, prefixed}

-- the number of a field, or 0 where it is below that
abbrev pub as_number : ℤ → ℕ
as_number (pos n) = n
as_number (negsuc n) = 0

-- whether a field has this number
abbrev pub has_number : ℕ → FieldDescriptorProto → Bool
has_number n d = nat_eq (as_number d.number) n

-- no two fields have one number
abbrev pub AreNumberedApart : List FieldDescriptorProto → Type 0
AreNumberedApart ds = (n : ℕ) → count_by (has_number n) ds ≤ 1

-- whether a field has this name
abbrev pub field_has_name : List ℕ → FieldDescriptorProto → Bool
field_has_name name d = bytes_eq name (string_bytes d.name)

-- the features of a field, within those of what it stands in
abbrev pub field_features : Features → Option (Box FieldOptions Global) → Features
field_features outer None = outer
field_features outer (Some options) = features_with outer (box_value options).features

-- whether these are the options of a type of a map's entries
abbrev pub says_entry : Option (Box MessageOptions Global) → Bool
says_entry None = false
says_entry (Some options) = (box_value options).map_entry

abbrev pub is_entry : DeclaredMessage → Bool
is_entry message = says_entry message.descriptor.options

-- the features of a field of a message type: what stands in an entry of a map is no group
abbrev pub own_features : DeclaredMessage → FieldDescriptorProto → Features
own_features m d =
    if is_entry m then prefixed (field_features m.features d.options)
    else field_features m.features d.options

-- the kind of a field of this type, which is no message and no enum
abbrev pub scalar_of : ℤ → Option Kind
scalar_of number =
    if int_eq number (pos 1) then Some kinds.Double
    else (if int_eq number (pos 2) then Some kinds.Float
    else (if int_eq number (pos 3) then Some kinds.Int64
    else (if int_eq number (pos 4) then Some kinds.Uint64
    else (if int_eq number (pos 5) then Some kinds.Int32
    else (if int_eq number (pos 6) then Some kinds.Fixed64
    else (if int_eq number (pos 7) then Some kinds.Fixed32
    else (if int_eq number (pos 8) then Some kinds.Bool
    else (if int_eq number (pos 9) then Some kinds.Text
    else (if int_eq number (pos 12) then Some kinds.Blob
    else (if int_eq number (pos 13) then Some kinds.Uint32
    else (if int_eq number (pos 15) then Some kinds.Sfixed32
    else (if int_eq number (pos 16) then Some kinds.Sfixed64
    else (if int_eq number (pos 17) then Some kinds.Sint32
    else (if int_eq number (pos 18) then Some kinds.Sint64
    else None))))))))))))))

-- the kind of a field of the message type at this place: a group where messages are delimited, but
-- not of a map
abbrev pub message_kind : Declared → Features → ℕ → Kind
message_kind declared features place =
    if is_delimited features
    && not (option_map_or is_entry (slice_get declared.messages.items place) false)
    then kinds.Group place else kinds.Message place

-- what a field of these features holds, by its type and the name of that; 10 is a group, 11 a
-- message and 14 an enum
abbrev pub kind_in : Declared → Places → Features → FieldDescriptorProto → Option Kind
kind_in declared places features d =
    if int_eq d.type_ (pos 10)
    then option_map kinds.Group (get_by_text places.messages (string_bytes d.type_name))
    else (if int_eq d.type_ (pos 11)
    then option_map (message_kind declared features)
    (get_by_text places.messages (string_bytes d.type_name))
    else (if int_eq d.type_ (pos 14)
    then option_map kinds.Enum (get_by_text places.enums (string_bytes d.type_name))
    else scalar_of d.type_))

-- A field of this name and these features as its descriptor tells it. Of the labels 2 is required,
-- and 3 repeated.
pub record IsField (declared : Declared) (places : Places) (features : Features) (name : List ℕ)
    (d : FieldDescriptorProto) (f : Field) : Type 0 where
  pub number : d.number ≡ pos f.number
  pub positive : 0 < f.number
  pub within : f.number ≤ 536870911
  pub named : string_bytes f.name ≡ name
  pub kind : kind_in declared places features d ≡ Some f.kind
  pub extension : f.is_extension ≡ not (bytes_eq (string_bytes d.extendee) [])
  pub repeated : f.is_repeated ≡ int_eq d.label (pos 3)
  pub required : f.is_required ≡ (int_eq d.label (pos 2) || is_legacy_required features)
  pub checked : f.is_checked ≡ is_checked features
