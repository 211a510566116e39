-- The path to a byte of a JSON text.
use Rattle.std.specs.Prelude.{◌≡◌, ℕ, zero, suc, ◌+◌, ◌-◌, List, [], ◌∷◌, length, take}
use Rattle.wire_json.specs.Bytes.{past_space}
use Rattle.wire_json.specs.Text.{ReadsName}
use Rattle.wire_jsonpath.specs.Items.{HoldsByte, IsMemberOver, IsOver, ReachesItem}
use Rattle.wire_jsonpath.specs.Path.{TreeStep, element, member}

-- The element of the array, or the value of the member of the object, that holds the byte, with the
-- bytes from it on.
pub data LeadsTo (levels left : ℕ) (old : List ℕ) : TreeStep → List ℕ → Type 0 where
  to_element : (index : ℕ) (item : List ℕ)
      → ReachesItem 91 93 (IsOver levels left) old index item → HoldsByte levels left item
      → LeadsTo levels left old (element index) item
  to_member : (index : ℕ) (item name value : List ℕ)
      → ReachesItem 123 125 (IsMemberOver levels left) old index item
      → ReadsName name item value → HoldsByte levels left value
      → LeadsTo levels left old (member name) value

-- no element of the array that begins here holds the byte
abbrev pub NoElementHolds : ℕ → ℕ → List ℕ → Type 0
NoElementHolds levels left old =
    (index : ℕ) (inner : List ℕ) → LeadsTo levels left old (element index) inner → ⊥

-- no member of the object that begins here holds the byte
abbrev pub NoMemberHolds : ℕ → ℕ → List ℕ → Type 0
NoMemberHolds levels left old =
    (name inner : List ℕ) → LeadsTo levels left old (member name) inner → ⊥

-- nothing in the value that begins here holds the byte
abbrev pub NothingHolds : ℕ → ℕ → List ℕ → Type 0
NothingHolds levels left old =
    (step : TreeStep) (inner : List ℕ) → LeadsTo levels left old step inner → ⊥

-- The path to the byte from a value on: as long as one of its elements or members holds the byte, a
-- step leads to it, over so many levels at most.
abbrev pub IsPathFrom : ℕ → ℕ → List ℕ → List TreeStep → Type 0
IsPathFrom zero left old path = path ≡ []
IsPathFrom (suc levels) left old [] = NothingHolds levels left old
IsPathFrom (suc levels) left old (step ∷ path) =
    (inner : List ℕ) × LeadsTo levels left old step inner × IsPathFrom levels left inner path

-- The path from the value of a text to a byte of it, or to its end. What stands behind the byte
-- makes no difference.
abbrev pub IsPathTo : ℕ → List ℕ → ℕ → List TreeStep → Type 0
IsPathTo levels text at path =
    let front = take (at + 1) text in
    IsPathFrom levels (length front - at) (past_space front) path
