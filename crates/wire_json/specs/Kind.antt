-- The kinds of values, by the first byte.
use Rattle.std.specs.Prelude.{ℕ, true, false, ◌||◌, ◌==◌, List, [], ◌∷◌, Option, Some, None, if◌then◌else◌}
use Rattle.std.specs.Char.{is_ascii_digit}
use Rattle.wire_json.specs.declared.kind.Kind.{Kind}
use Rattle.wire_json.specs.declared.kind.Kind.TheVariants as kinds
use Rattle.wire_json.specs.Json.{Json, null, boolean, number, string, array, object}

-- the kind of value that begins with this byte
abbrev pub kind_by : ℕ → Option Kind
kind_by c =
    if c == 110 then Some kinds.Null
    else if c == 116 then Some kinds.True
    else if c == 102 then Some kinds.False
    else if c == 34 then Some kinds.String
    else if c == 91 then Some kinds.Array
    else if c == 123 then Some kinds.Object
    else if c == 45 || is_ascii_digit c then Some kinds.Number
    else None

-- the kind of value that begins here
abbrev pub kind_begun : List ℕ → Option Kind
kind_begun [] = None
kind_begun (c ∷ rest) = kind_by c

-- the kind of a tree
abbrev pub tree_kind : Json → Kind
tree_kind null = kinds.Null
tree_kind (boolean true) = kinds.True
tree_kind (boolean false) = kinds.False
tree_kind (number text) = kinds.Number
tree_kind (string bytes) = kinds.String
tree_kind (array es) = kinds.Array
tree_kind (object ms) = kinds.Object
