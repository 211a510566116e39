-- The values of an enum: by their names, or by their numbers.
use Rattle.std.specs.Prelude.{◌≡◌, ◌⊎◌, ℕ, ℤ, List, [], ◌∷◌, map, IsUtf8}
use Rattle.std.specs.Int.{w32}
use Rattle.wire_json.specs.Json.{Json, null, boolean, number, string, array, object}
use Rattle.wire_protojson.specs.declared.enums.EnumName.{EnumName}
use Rattle.wire_protojson.specs.Numbers.{MeansSigned}
use Rattle.wire_protojson.specs.Trees.{short_signed_tree}

-- the first of the list for which P holds
abbrev pub IsFirst : {X : Type 0} → (X → Type 0) → List X → X → Type 0
IsFirst P [] x = ⊥
IsFirst P (y ∷ ys) x = (P y × (y ≡ x)) ⊎ ((P y → ⊥) × IsFirst P ys x)

-- the values of an enum, each by its name and its number
abbrev pub EnumTable : Type 0
EnumTable = List (List ℕ × ℤ)

abbrev pub enum_entry : EnumName → List ℕ × ℤ
enum_entry e = (e.name.now, e.number)

abbrev pub enum_table : List EnumName → EnumTable
enum_table = map enum_entry

-- the first value of this name has this number
abbrev pub NamesNumber : EnumTable → List ℕ → ℤ → Type 0
NamesNumber names text z = (e : List ℕ × ℤ) × IsFirst (λ x. x.0 ≡ text) names e × (e.1 ≡ z)

-- the first value of this number has this name
abbrev pub NumberIsNamed : EnumTable → ℤ → List ℕ → Type 0
NumberIsNamed names z text = (e : List ℕ × ℤ) × IsFirst (λ x. x.1 ≡ z) names e × (e.0 ≡ text)

-- a string is a name, and a number any number of 32 bits
abbrev pub MeansEnum : EnumTable → Json → ℤ → Type 0
MeansEnum names (string text) z = NamesNumber names text z
MeansEnum names (number text) z = MeansSigned w32 (number text) z
MeansEnum names null z = ⊥
MeansEnum names (boolean b) z = ⊥
MeansEnum names (array es) z = ⊥
MeansEnum names (object ms) z = ⊥

-- the name of a number that has one, and else the number
abbrev pub IsEnumTree : EnumTable → ℤ → Json → Type 0
IsEnumTree names z json =
    ((text : List ℕ) × NumberIsNamed names z text × (json ≡ string text))
    ⊎ (((text : List ℕ) → NumberIsNamed names z text → ⊥) × (json ≡ short_signed_tree z))

-- no name stands for two numbers
abbrev pub NamesAgree : EnumTable → Type 0
NamesAgree names =
    (z : ℤ) (text : List ℕ) → NumberIsNamed names z text → NamesNumber names text z

-- the names are UTF-8, as those of Rust always are
abbrev pub AreTexts : EnumTable → Type 0
AreTexts names = (z : ℤ) (text : List ℕ) → NumberIsNamed names z text → IsUtf8 text
