-- What is read where it is written again.
use Rattle.std.specs.Prelude.{◌≡◌, ℕ, ◌≤◌, List, ◌∷◌, ◌++◌, drop, encode_utf8_all}
use Rattle.wire_json.specs.Json.{Json, depth, Elements, elements_depth, Members, members_depth}
use Rattle.wire_json.specs.Reading.{ReadsValue, ReadsElements, ReadsMembers, Spells}
use Rattle.wire_json.specs.Text.{ReadsChars, ReadsString, ReadsName}
use Rattle.wire_json.specs.Written.{written, written_bytes, written_elements, written_members, written_name, written_string}

-- A number or a word is read up to this place, and is its own compact text.
abbrev pub ReadsSimple : List ℕ → List ℕ → ℕ → Type 0
ReadsSimple text old after =
    (json : Json) × ReadsValue json old (drop after text) × (depth json ≡ 0)
    × (old ≡ written json ++ drop after text)

-- text was put behind what there was
abbrev pub Extends : List ℕ → List ℕ → Type 0
Extends old new = (text : List ℕ) × (new ≡ old ++ text)

-- the compact text of a value, which nests at most so deep, was put behind what there was
abbrev pub PutsValue : ℕ → List ℕ → List ℕ → List ℕ → List ℕ → Type 0
PutsValue levels old rest before after =
    (json : Json) × ReadsValue json old rest × (depth json ≤ levels)
    × (after ≡ before ++ written json)

-- a string and its compact text
abbrev pub PutsString : List ℕ → List ℕ → List ℕ → List ℕ → Type 0
PutsString old rest before after =
    (bytes : List ℕ) × ReadsString bytes old rest × (after ≡ before ++ written_string bytes)

-- the characters of a string, up to its closing quotation mark, and their compact text
abbrev pub PutsChars : List ℕ → List ℕ → List ℕ → List ℕ → Type 0
PutsChars old rest before after =
    (chars : List ℕ) × ReadsChars chars old rest
    × (after ≡ before ++ written_bytes (encode_utf8_all chars))

-- the name of a member and its colon, and their compact text
abbrev pub PutsName : List ℕ → List ℕ → List ℕ → List ℕ → Type 0
PutsName old rest before after =
    (name : List ℕ) × ReadsName name old rest × (after ≡ before ++ written_name name)

-- an array whose elements nest at most so deep, and its compact text
abbrev pub PutsElements : ℕ → List ℕ → List ℕ → List ℕ → List ℕ → Type 0
PutsElements levels old rest before after =
    (inside : List ℕ) × (es : Elements) × (old ≡ 91 ∷ inside) × ReadsElements es inside rest
    × (elements_depth es ≤ levels) × (after ≡ before ++ (91 ∷ written_elements es))

-- an object whose members nest at most so deep, and its compact text
abbrev pub PutsMembers : ℕ → List ℕ → List ℕ → List ℕ → List ℕ → Type 0
PutsMembers levels old rest before after =
    (inside : List ℕ) × (ms : Members) × (old ≡ 123 ∷ inside) × ReadsMembers ms inside rest
    × (members_depth ms ≤ levels) × (after ≡ before ++ (123 ∷ written_members ms))

-- the compact text of what a text spells was put behind what there was
abbrev pub PutsCompact : ℕ → List ℕ → List ℕ → List ℕ → Type 0
PutsCompact levels text before after =
    (json : Json) × Spells text json × (depth json ≤ levels) × (after ≡ before ++ written json)
