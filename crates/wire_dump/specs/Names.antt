-- How fields are named in lines.
use Rattle.std.specs.Prelude.{ℕ, List, [], ◌∷◌, ◌++◌, nat_eq, string_bytes, if◌then◌else◌}
use Rattle.std.specs.Option.{option_map_or}
use Rattle.std.specs.Str.{str_eq_ignore_ascii_case}
use Rattle.wire_dynamic.specs.declared.field.Field.{Field}
use Rattle.wire_dynamic.specs.declared.field.Kind.{Kind}
use Rattle.wire_dynamic.specs.declared.field.Kind.TheVariants as kinds
use Rattle.wire_dynamic.specs.declared.schema.Schema.{Schema}
use Rattle.wire_dynamic.specs.Schemas.{type_at}

-- a name without the dot in front
abbrev pub without_dot : List ℕ → List ℕ
without_dot [] = []
without_dot (b ∷ name) = if nat_eq b 46 then name else b ∷ name

-- a part of a name, which begins anew behind each dot of the rest
abbrev pub part_behind : List ℕ → List ℕ → List ℕ
part_behind part [] = part
part_behind part (b ∷ rest) =
    if nat_eq b 46 then part_behind rest rest else part_behind part rest

-- what stands behind the last dot
abbrev pub last_part : List ℕ → List ℕ
last_part name = part_behind name name

-- the name of a field; of an extension its full name
abbrev pub shown_name : Field → List ℕ
shown_name f = without_dot (string_bytes f.name)

-- a group goes by the name of its type where that is the field's but for case
abbrev pub group_name : List ℕ → List ℕ → List ℕ
group_name type_name name = if str_eq_ignore_ascii_case type_name name then type_name else name

abbrev pub name_of_kind : Schema → Kind → List ℕ → List ℕ
name_of_kind s (kinds.Group place) name =
    option_map_or (λ m. group_name (last_part (string_bytes m.name)) name) (type_at s place) name
name_of_kind s _ name = name

-- the name of a field in a line: that of an extension in brackets
abbrev pub field_name : Schema → Field → List ℕ
field_name s f =
    if f.is_extension then 91 ∷ (shown_name f ++ 93 ∷ [])
    else name_of_kind s f.kind (shown_name f)
