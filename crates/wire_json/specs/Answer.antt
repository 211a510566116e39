-- What a call answers of a place in a text.
use Rattle.std.specs.Prelude.{◌≡◌, ℕ, ◌<◌, ◌≤◌, List, length, drop, Result, Ok, Err}
use Rattle.wire_json.specs.declared.escape.CodeUnit.{CodeUnit}
use Rattle.wire_json.specs.declared.fault.Fault.{Fault}
use Rattle.wire_json.specs.declared.fault.FaultKind.{FaultKind}
use Rattle.wire_json.specs.declared.fault.FaultKind.TheVariants.{Syntax}
use Rattle.wire_json.specs.declared.fault.JsonError.{JsonError}
use Rattle.wire_json.specs.declared.fault.JsonError.TheVariants.{Refused, OutOfMemory}

-- the place of what is left, or of the fault
abbrev pub Answers : List ℕ → Result ℕ Fault → Result (List ℕ) (List ℕ) → Type 0
Answers text (Ok after) outcome = outcome ≡ Ok (drop after text)
Answers text (Err fault) outcome =
    (outcome ≡ Err (drop fault.at text)) × (fault.kind ≡ Syntax)

-- a place behind this one, in the text
pub record IsBehind (at after : ℕ) (text : List ℕ) : Type 0 where
  pub forward : at < after
  pub within : after ≤ length text

-- this place or one behind it, in the text where this one is
pub record IsOnward (at after : ℕ) (text : List ℕ) : Type 0 where
  pub forward : at ≤ after
  pub within : at ≤ length text → after ≤ length text

-- a fault at its place
abbrev pub FaultAt : List ℕ → Fault → (FaultKind → List ℕ → Type 0) → Type 0
FaultAt text fault Stands = Stands fault.kind (drop fault.at text)

-- a unit of UTF-16 with the place behind it, or the place of the fault
abbrev pub AnswersUnit : List ℕ → Result CodeUnit Fault → Result (ℕ × List ℕ) (List ℕ) → Type 0
AnswersUnit text (Ok unit) outcome = outcome ≡ Ok (unit.value, drop unit.after text)
AnswersUnit text (Err fault) outcome =
    (outcome ≡ Err (drop fault.at text)) × (fault.kind ≡ Syntax)

-- what holds of the fault, where it is no want of memory
abbrev pub IfRefused : JsonError → (Fault → Type 0) → Type 0
IfRefused (Refused fault) Holds = Holds fault
IfRefused OutOfMemory Holds = Unit {0}
