-- What is written of a value is read as that value.
use Rattle.std.specs.Prelude.{◌≡◌, ℕ, List, [], ◌∷◌, IsUtf8}
use Rattle.wire_json.specs.Json.{Json, null, IsLawful}
use Rattle.wire_json.specs.Reading.{Spells}

-- the tree is lawful, means the value, and is not `null`
pub record IsBack {V : Type 0} (Means : Json → V → Type 0) (e : Json) (v : V) : Type 0 where
  pub lawful : IsLawful e
  pub means : Means e v
  pub present : e ≡ null → ⊥

-- each tree that is written of a value means it
abbrev pub ComesBack : {V : Type 0} → (Json → V → Type 0) → (V → Json → Type 0) → V → Type 0
ComesBack Means Tree v = (e : Json) → Tree v e → IsBack Means e v

-- each value of a list comes back
abbrev pub EachComesBack : {V : Type 0} → (Json → V → Type 0) → (V → Json → Type 0) → List V
    → Type 0
EachComesBack Means Tree [] = Unit {0}
EachComesBack Means Tree (v ∷ vs) = ComesBack Means Tree v × EachComesBack Means Tree vs

-- the name of each key is UTF-8 and means it, and each value comes back
abbrev pub EntriesComeBack : {K V : Type 0} → (List ℕ → K → Type 0) → (K → List ℕ)
    → (Json → V → Type 0) → (V → Json → Type 0) → List (K × V) → Type 0
EntriesComeBack Key name Means Tree [] = Unit {0}
EntriesComeBack Key name Means Tree (e ∷ es) =
    IsUtf8 (name e.0) × Key (name e.0) e.0 × ComesBack Means Tree e.1
    × EntriesComeBack Key name Means Tree es

-- a text spells one value at most
abbrev pub SpellsOneValue : {V : Type 0} → (Json → V → Type 0) → Type 0
SpellsOneValue {V} Means =
    (text : List ℕ) (j k : Json) (v w : V) → Spells text j → Spells text k → Means j v → Means k w
    → v ≡ w
