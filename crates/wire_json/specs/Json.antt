-- What a JSON text spells: a tree. A number is kept by its text, a string by its bytes, and the
-- members of an object in the order in which they came, also those of one name.
use Rattle.std.specs.Prelude.{ℕ, suc, Bool, List, max, IsUtf8}
use Rattle.wire_json.specs.Number.{SpellsNumber}

mutual
  pub data Json : Type 0 where
    null : Json
    boolean : Bool → Json
    number : List ℕ → Json
    string : List ℕ → Json
    array : Elements → Json
    object : Members → Json

  pub data Elements : Type 0 where
    no_element : Elements
    element : Json → Elements → Elements

  pub data Members : Type 0 where
    no_member : Members
    member : List ℕ → Json → Members → Members

abbrev mutual
  -- how many arrays and objects stand in one another
  pub depth : Json → ℕ
  depth null = 0
  depth (boolean b) = 0
  depth (number text) = 0
  depth (string bytes) = 0
  depth (array es) = suc (elements_depth es)
  depth (object ms) = suc (members_depth ms)

  pub elements_depth : Elements → ℕ
  elements_depth no_element = 0
  elements_depth (element e es) = max (depth e) (elements_depth es)

  pub members_depth : Members → ℕ
  members_depth no_member = 0
  members_depth (member name e ms) = max (depth e) (members_depth ms)

abbrev mutual
  -- each number is one, and each string is UTF-8
  pub IsLawful : Json → Type 0
  IsLawful null = Unit {0}
  IsLawful (boolean b) = Unit {0}
  IsLawful (number text) = SpellsNumber text
  IsLawful (string bytes) = IsUtf8 bytes
  IsLawful (array es) = AreLawful es
  IsLawful (object ms) = AreLawfulMembers ms

  pub AreLawful : Elements → Type 0
  AreLawful no_element = Unit {0}
  AreLawful (element e es) = IsLawful e × AreLawful es

  pub AreLawfulMembers : Members → Type 0
  AreLawfulMembers no_member = Unit {0}
  AreLawfulMembers (member name e ms) = IsUtf8 name × IsLawful e × AreLawfulMembers ms
