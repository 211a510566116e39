-- What is read where at most so many arrays and objects stand in one another.
use Rattle.std.specs.Prelude.{ℕ, ◌≤◌, List}
use Rattle.wire_json.specs.Json.{Json, depth}
use Rattle.wire_json.specs.Reading.{ReadsValue, Spells}
use Rattle.wire_json.specs.Written.{written}

-- a tree of at most so many levels is read that means this value
abbrev pub ReadsWithin : {V : Type 0} → ℕ → (Json → V → Type 0) → List ℕ → V → List ℕ → Type 0
ReadsWithin levels Means old value new =
    (json : Json) × ReadsValue json old new × (depth json ≤ levels) × Means json value

-- none is read, of whatever value
abbrev pub NothingMeant : {V : Type 0} → ℕ → (Json → V → Type 0) → List ℕ → Type 0
NothingMeant {V} levels Means old =
    (value : V) (new : List ℕ) → ReadsWithin levels Means old value new → ⊥

-- the whole text spells such a tree
abbrev pub SpellsWithin : {V : Type 0} → ℕ → (Json → V → Type 0) → List ℕ → V → Type 0
SpellsWithin levels Means text value =
    (json : Json) × Spells text json × (depth json ≤ levels) × Means json value

-- ---- what is written

-- each tree of the value has at most so many levels
abbrev pub NestsWithin : {V : Type 0} → ℕ → (V → Json → Type 0) → V → Type 0
NestsWithin levels Tree value = (json : Json) → Tree value json → depth json ≤ levels

-- the compact text of the tree is read as the value at just the levels that the tree has, or more
abbrev pub IsReadFrom : {V : Type 0} → (Json → V → Type 0) → Json → V → Type 0
IsReadFrom {V} Means json value =
    (levels : ℕ) → (depth json ≤ levels → SpellsWithin levels Means (written json) value)
    × ((other : V) → SpellsWithin levels Means (written json) other → depth json ≤ levels)
