-- The compact text of a tree: no white space, and the fewest escapes.
use Rattle.std.specs.Prelude.{ℕ, ◌/◌, ◌%◌, Bool, true, false, ◌==◌, nat_lt, List, [], ◌∷◌, ◌++◌, codes, if◌then◌else◌}
use Rattle.std.specs.Char.{digit_char}
use Rattle.wire_json.specs.declared.write.Mark.{Mark}
use Rattle.wire_json.specs.declared.write.Mark.TheVariants.{BeginArray, EndArray, BeginObject, EndObject, Comma}
use Rattle.wire_json.specs.Json.{Json, null, boolean, number, string, array, object, Elements, no_element, element, Members, no_member, member}

-- A byte of a string: quotation mark, backslash and control characters by their escapes, of which
-- those that have no letter by `\u00` and two lower-case digits; any other byte as it is.
abbrev pub written_byte : ℕ → List ℕ
written_byte b =
    if b == 34 then 92 ∷ 34 ∷ []
    else if b == 92 then 92 ∷ 92 ∷ []
    else if b == 8 then 92 ∷ 98 ∷ []
    else if b == 12 then 92 ∷ 102 ∷ []
    else if b == 10 then 92 ∷ 110 ∷ []
    else if b == 13 then 92 ∷ 114 ∷ []
    else if b == 9 then 92 ∷ 116 ∷ []
    else if nat_lt b 32
    then 92 ∷ 117 ∷ 48 ∷ 48 ∷ digit_char (b / 16) ∷ digit_char (b % 16) ∷ []
    else b ∷ []

abbrev pub written_bytes : List ℕ → List ℕ
written_bytes [] = []
written_bytes (b ∷ bytes) = written_byte b ++ written_bytes bytes

abbrev pub written_string : List ℕ → List ℕ
written_string bytes = 34 ∷ (written_bytes bytes ++ 34 ∷ [])

-- the name of a member, and a colon
abbrev pub written_name : List ℕ → List ℕ
written_name name = written_string name ++ 58 ∷ []

abbrev pub word_text : Bool → List ℕ
word_text true = codes "true"
word_text false = codes "false"

-- what stands between values
abbrev pub mark_byte : Mark → ℕ
mark_byte BeginArray = 91
mark_byte EndArray = 93
mark_byte BeginObject = 123
mark_byte EndObject = 125
mark_byte Comma = 44

abbrev mutual
  pub written : Json → List ℕ
  written null = codes "null"
  written (boolean b) = word_text b
  written (number text) = text
  written (string bytes) = written_string bytes
  written (array es) = 91 ∷ written_elements es
  written (object ms) = 123 ∷ written_members ms

  -- elements, and the bracket that closes them
  pub written_elements : Elements → List ℕ
  written_elements no_element = 93 ∷ []
  written_elements (element e es) = written e ++ written_more es

  -- what stands behind an element
  pub written_more : Elements → List ℕ
  written_more no_element = 93 ∷ []
  written_more (element e es) = 44 ∷ (written e ++ written_more es)

  -- members, and the brace that closes them
  pub written_members : Members → List ℕ
  written_members no_member = 125 ∷ []
  written_members (member name e ms) =
      written_name name ++ (written e ++ written_more_members ms)

  -- what stands behind a member
  pub written_more_members : Members → List ℕ
  written_more_members no_member = 125 ∷ []
  written_more_members (member name e ms) =
      44 ∷ (written_name name ++ (written e ++ written_more_members ms))
