-- The grammar of JSON (RFC 8259): what is read from the front of bytes, and what is left.
use Rattle.std.specs.Prelude.{◌≡◌, ℕ, true, false, List, [], ◌∷◌, codes, Ok}
use Rattle.wire_json.specs.Bytes.{past_space, word_end}
use Rattle.wire_json.specs.Json.{Json, null, boolean, number, string, array, object, Elements, no_element, element, Members, no_member, member}
use Rattle.wire_json.specs.Number.{ReadsNumeral}
use Rattle.wire_json.specs.Text.{ReadsString, ReadsName}

abbrev mutual
  -- a value, with no white space before it
  pub ReadsValue : Json → List ℕ → List ℕ → Type 0
  ReadsValue null old new = word_end (codes "null") old ≡ Ok new
  ReadsValue (boolean true) old new = word_end (codes "true") old ≡ Ok new
  ReadsValue (boolean false) old new = word_end (codes "false") old ≡ Ok new
  ReadsValue (number text) old new = ReadsNumeral text old new
  ReadsValue (string bytes) old new = ReadsString bytes old new
  ReadsValue (array es) old new =
      (inside : List ℕ) × (old ≡ 91 ∷ inside) × ReadsElements es inside new
  ReadsValue (object ms) old new =
      (inside : List ℕ) × (old ≡ 123 ∷ inside) × ReadsMembers ms inside new

  -- what stands behind `[`: `]`, or an element and what follows it
  pub ReadsElements : Elements → List ℕ → List ℕ → Type 0
  ReadsElements no_element old new = past_space old ≡ 93 ∷ new
  ReadsElements (element e es) old new =
      (rest : List ℕ) × ReadsValue e (past_space old) rest × ReadsMoreElements es rest new

  -- what stands behind an element: `]`, or a comma, an element and what follows it
  pub ReadsMoreElements : Elements → List ℕ → List ℕ → Type 0
  ReadsMoreElements no_element old new = past_space old ≡ 93 ∷ new
  ReadsMoreElements (element e es) old new =
      (next : List ℕ) × (rest : List ℕ) × (past_space old ≡ 44 ∷ next)
      × ReadsValue e (past_space next) rest × ReadsMoreElements es rest new

  -- what stands behind `{`: `}`, or a member and what follows it
  pub ReadsMembers : Members → List ℕ → List ℕ → Type 0
  ReadsMembers no_member old new = past_space old ≡ 125 ∷ new
  ReadsMembers (member name e ms) old new =
      (value : List ℕ) × (rest : List ℕ) × ReadsName name (past_space old) value
      × ReadsValue e value rest × ReadsMoreMembers ms rest new

  -- what stands behind a member: `}`, or a comma, a member and what follows it
  pub ReadsMoreMembers : Members → List ℕ → List ℕ → Type 0
  ReadsMoreMembers no_member old new = past_space old ≡ 125 ∷ new
  ReadsMoreMembers (member name e ms) old new =
      (next : List ℕ) × (value : List ℕ) × (rest : List ℕ) × (past_space old ≡ 44 ∷ next)
      × ReadsName name (past_space next) value × ReadsValue e value rest
      × ReadsMoreMembers ms rest new

-- the text is this value, with white space before and behind it
abbrev pub Spells : List ℕ → Json → Type 0
Spells text json =
    (rest : List ℕ) × ReadsValue json (past_space text) rest × (past_space rest ≡ [])
