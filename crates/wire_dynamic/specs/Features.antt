-- What a part of a file says of its features.
use Rattle.std.specs.Prelude.{ℕ, Bool, ◌&&◌, ◌||◌, ℤ, pos, List, [], Option, None, Some, codes, option_map, string_bytes, if◌then◌else◌}
use Rattle.std.specs.Ordering.{int_eq}
use Rattle.std.specs.Str.{bytes_eq}
use Rattle.std.specs.Prelude.{Box, box_value}
use Rattle.std.specs.declared.alloc.Global.{Global}
use Rattle.wire_descriptor.specs.declared.feature_set.FeatureSet.{FeatureSet}
use Rattle.wire_descriptor.specs.declared.file_descriptor_proto.FileDescriptorProto.{FileDescriptorProto}
use Rattle.wire_descriptor.specs.declared.file_options.FileOptions.{FileOptions}
use Rattle.wire_dynamic.specs.declared.features.Features.{Features}

-- what is said, where something is said
abbrev pub said_or : ℤ → ℤ → ℤ
said_or said otherwise = if int_eq said (pos 0) then otherwise else said

-- the features but for what a set says
abbrev pub features_but_for : Features → FeatureSet → Features
features_but_for outer set = record {
  presence = said_or set.field_presence outer.presence;
  enum_type = said_or set.enum_type outer.enum_type;
  strings = said_or set.utf8_validation outer.strings;
  encoding = said_or set.message_encoding outer.encoding;
}

-- the features but for what a part says itself
abbrev pub features_with : Features → Option (Box FeatureSet Global) → Features
features_with outer None = outer
features_with outer (Some boxed) = features_but_for outer (box_value boxed)

abbrev pub is_legacy_required : Features → Bool
is_legacy_required features = int_eq features.presence (pos 3)

abbrev pub is_closed : Features → Bool
is_closed features = int_eq features.enum_type (pos 2)

abbrev pub is_checked : Features → Bool
is_checked features = int_eq features.strings (pos 2)

abbrev pub is_delimited : Features → Bool
is_delimited features = int_eq features.encoding (pos 2)

-- the same with messages behind their length
abbrev pub prefixed : Features → Features
prefixed features = record {
  presence = features.presence;
  enum_type = features.enum_type;
  strings = features.strings;
  encoding = pos 1;
}

-- ---- the features of a file

-- those with this presence of fields (1 is explicit and 2 implicit), these enums (1 is open and 2
-- closed) and this check of strings (2 is one and 3 none), where messages stand behind their length
abbrev pub length_prefixed_features : ℤ → ℤ → ℤ → Features
length_prefixed_features presence enum_type strings = record {
  presence = presence;
  enum_type = enum_type;
  strings = strings;
  encoding = pos 1;
}

-- explicit presence, closed enums, and strings that may be no UTF-8
abbrev pub proto2 : Features
proto2 = length_prefixed_features (pos 1) (pos 2) (pos 3)

-- implicit presence, open enums, and strings that are UTF-8
abbrev pub proto3 : Features
proto3 = length_prefixed_features (pos 2) (pos 1) (pos 2)

-- explicit presence, open enums, and strings that are UTF-8
abbrev pub edition_2023 : Features
edition_2023 = length_prefixed_features (pos 1) (pos 1) (pos 2)

-- What a syntax leaves to a file, or an edition where the syntax says that there is one; the one
-- that is known is 2023, whose number is 1000. A file that names no syntax is of proto2.
abbrev pub syntax_features : List ℕ → ℤ → Option Features
syntax_features syntax edition =
    if bytes_eq syntax [] || bytes_eq syntax (codes "proto2") then Some proto2
    else (if bytes_eq syntax (codes "proto3") then Some proto3
    else (if bytes_eq syntax (codes "editions") && int_eq edition (pos 1000)
    then Some edition_2023 else None))

-- the features but for what the options of a file say
abbrev pub with_file_options : Option (Box FileOptions Global) → Features → Features
with_file_options None outer = outer
with_file_options (Some options) outer = features_with outer (box_value options).features

-- the features of a file, if its syntax or its edition is known
abbrev pub file_features : FileDescriptorProto → Option Features
file_features file = option_map (with_file_options file.options)
    (syntax_features (string_bytes file.syntax_) file.edition)
