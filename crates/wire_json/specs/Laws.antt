-- What holds of JSON. Each statement is proved as the contract of a law of src/laws.rt.
use Rattle.std.specs.Prelude.{◌≡◌, ℕ, ◌≤◌, List, ◌++◌, false}
use Rattle.wire_json.specs.declared.fault.FaultKind.{FaultKind}
use Rattle.wire_json.specs.Bytes.{begins}
use Rattle.wire_json.specs.Fault.{ValueFault, TextFault}
use Rattle.wire_json.specs.Json.{Json, IsLawful, depth}
use Rattle.wire_json.specs.Number.{is_of_number}
use Rattle.wire_json.specs.Reading.{ReadsValue, Spells}
use Rattle.wire_json.specs.Written.{written}

-- of the same bytes one value is read, and one rest is left
abbrev pub OneValue : Type 0
OneValue =
    (j k : Json) (old x y : List ℕ) → ReadsValue j old x → ReadsValue k old y
    → (j ≡ k) × (x ≡ y)

-- a text spells one value at most
abbrev pub SpellsOne : Type 0
SpellsOne = (text : List ℕ) (j k : Json) → Spells text j → Spells text k → j ≡ k

-- where a fault stands no value is read that nests so deep
abbrev pub NoValueBesideFault : Type 0
NoValueBesideFault =
    (l : ℕ) (j : Json) (old new : List ℕ) (k : FaultKind) (left : List ℕ)
    → ReadsValue j old new → depth j ≤ l → ValueFault l old k left → ⊥

-- a text with a fault spells no value that nests so deep
abbrev pub NoTextBesideFault : Type 0
NoTextBesideFault =
    (l : ℕ) (text : List ℕ) (j : Json) (k : FaultKind) (left : List ℕ)
    → Spells text j → depth j ≤ l → TextFault l text k left → ⊥

-- The compact text of a value is read as that value, whatever follows, where that goes on no number.
abbrev pub WrittenReadsBack : Type 0
WrittenReadsBack =
    (j : Json) (rest : List ℕ) → IsLawful j → begins is_of_number rest ≡ false
    → ReadsValue j (written j ++ rest) rest

-- the compact text of a value spells it
abbrev pub WrittenSpells : Type 0
WrittenSpells = (j : Json) → IsLawful j → Spells (written j) j

-- the same bytes have one fault of a value that nests so deep, at most
abbrev pub OneValueFault : Type 0
OneValueFault =
    (l : ℕ) (old : List ℕ) (k m : FaultKind) (a b : List ℕ) → ValueFault l old k a
    → ValueFault l old m b → (k ≡ m) × (a ≡ b)

-- a text has one fault at most
abbrev pub OneTextFault : Type 0
OneTextFault =
    (l : ℕ) (text : List ℕ) (k m : FaultKind) (a b : List ℕ) → TextFault l text k a
    → TextFault l text m b → (k ≡ m) × (a ≡ b)
