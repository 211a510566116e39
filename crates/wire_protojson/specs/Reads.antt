-- What is read of a place in a text, and what is refused.
use Rattle.std.specs.Prelude.{◌≡◌, ℕ, List, drop, Some}
use Rattle.wire_json.specs.declared.fault.FaultKind.{FaultKind}
use Rattle.wire_json.specs.declared.fault.JsonError.{JsonError}
use Rattle.wire_json.specs.declared.fault.JsonError.TheVariants as faults
use Rattle.wire_json.specs.declared.kind.Kind.TheVariants as kinds
use Rattle.wire_json.specs.Fault.{ValueFault}
use Rattle.wire_json.specs.Json.{Json}
use Rattle.wire_json.specs.Kind.{kind_begun}
use Rattle.wire_json.specs.Reading.{ReadsValue}
use Rattle.wire_protojson.specs.declared.refusal.ReadError.{ReadError}
use Rattle.wire_protojson.specs.declared.refusal.ReadError.TheVariants.{Refused, OutOfMemory}
use Rattle.wire_protojson.specs.declared.refusal.Reason.{Reason}
use Rattle.wire_protojson.specs.declared.refusal.Reason.TheVariants.{NoJson, NoValue}
use Rattle.wire_protojson.specs.declared.refusal.Refusal.{Refusal}

-- a tree is read that means this value
abbrev pub ReadsMeaning : {V : Type 0} → (Json → V → Type 0) → List ℕ → V → List ℕ → Type 0
ReadsMeaning Means old value new = (json : Json) × ReadsValue json old new × Means json value

-- neither an array nor an object begins here
pub record IsUnnested (old : List ℕ) : Type 0 where
  pub no_array : kind_begun old ≡ Some kinds.Array → ⊥
  pub no_object : kind_begun old ≡ Some kinds.Object → ⊥

-- No scalar stands here: no JSON, or an array or an object.
pub data NoScalarHere (old : List ℕ) : Reason → List ℕ → Type 0 where
  no_json : (k : FaultKind) (left : List ℕ) → IsUnnested old → ValueFault 0 old k left
      → NoScalarHere old (NoJson k) left
  is_array : kind_begun old ≡ Some kinds.Array → NoScalarHere old NoValue old
  is_object : kind_begun old ≡ Some kinds.Object → NoScalarHere old NoValue old

-- no scalar stands here, or one that means no value
pub data Refuses {V : Type 0} (Means : Json → V → Type 0) (old : List ℕ)
    : Reason → List ℕ → Type 0 where
  no_scalar : (r : Reason) (left : List ℕ) → NoScalarHere old r left → Refuses Means old r left
  no_meaning : (json : Json) (new : List ℕ) → ReadsValue json old new
      → ((value : V) → Means json value → ⊥) → Refuses Means old NoValue old

-- a refusal at its place
abbrev pub RefusedAt : List ℕ → Refusal → (Reason → List ℕ → Type 0) → Type 0
RefusedAt text refusal Stands = Stands refusal.reason (drop refusal.at text)

-- what holds of the refusal, where it is no want of memory
abbrev pub UnlessNoMemory : ReadError → (Refusal → Type 0) → Type 0
UnlessNoMemory (Refused refusal) Holds = Holds refusal
UnlessNoMemory OutOfMemory Holds = Unit {0}

-- the fault of a text that is no JSON, or want of memory
abbrev pub of_json_error : JsonError → ReadError
of_json_error (faults.Refused fault) = Refused (record { reason = NoJson fault.kind; at = fault.at })
of_json_error faults.OutOfMemory = OutOfMemory
