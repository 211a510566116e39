-- Refusals of what stands at a place.
use Rattle.std.proofs.Common.{◌≡◌, ℕ, List, drop, Option, Some, sym, subst, ◌∙◌}
use Rattle.wire_json.specs.declared.fault.Fault.{Fault}
use Rattle.wire_json.specs.Answer.{FaultAt}
use Rattle.wire_json.specs.Fault.{ValueFault}
use Rattle.wire_json.specs.declared.kind.Kind.{Kind}
use Rattle.wire_json.specs.declared.kind.Kind.TheVariants as kinds
use Rattle.wire_json.specs.Json.{Json}
use Rattle.wire_json.specs.Kind.{kind_begun}
use Rattle.wire_json.specs.Reading.{ReadsValue}
use Rattle.wire_protojson.specs.declared.refusal.ReadError.{ReadError}
use Rattle.wire_protojson.specs.declared.refusal.ReadError.TheVariants.{Refused, OutOfMemory}
use Rattle.wire_protojson.specs.declared.refusal.Reason.{Reason}
use Rattle.wire_protojson.specs.declared.refusal.Reason.TheVariants.{NoJson, NoValue}
use Rattle.wire_protojson.specs.Reads.{IsUnnested, NoScalarHere, no_json, Refuses, no_scalar, no_meaning, RefusedAt, UnlessNoMemory}

-- what begins here is of another kind
pub of_kind : (old : List ℕ) (begun : Option Kind) → kind_begun old ≡ begun
    → (begun ≡ Some kinds.Array → ⊥) → (begun ≡ Some kinds.Object → ⊥) → IsUnnested old
of_kind old begun is array object = record {
  no_array = λ h. array (sym is ∙ h);
  no_object = λ h. object (sym is ∙ h);
}

pub refused_json : (text old : List ℕ) (fault : Fault) (e : ReadError)
    → e ≡ Refused (record { reason = NoJson fault.kind; at = fault.at })
    → IsUnnested old → FaultAt text fault (ValueFault 0 old)
    → UnlessNoMemory e (λ refusal. RefusedAt text refusal (NoScalarHere old))
refused_json text old fault e is unnested h =
    let P : ReadError → Type 0 = λ x.
    UnlessNoMemory x (λ refusal. RefusedAt text refusal (NoScalarHere old)) in
    subst P (sym is) (no_json fault.kind (drop fault.at text) unnested h)

pub refused_as : (text : List ℕ) (fault : Fault) (Stands : Reason → List ℕ → Type 0) (e : ReadError)
    → e ≡ Refused (record { reason = NoJson fault.kind; at = fault.at })
    → Stands (NoJson fault.kind) (drop fault.at text)
    → UnlessNoMemory e (λ refusal. RefusedAt text refusal Stands)
refused_as text fault Stands e is h =
    let P : ReadError → Type 0 = λ x. UnlessNoMemory x (λ refusal. RefusedAt text refusal Stands) in
    subst P (sym is) h

pub refused_value : (text : List ℕ) (at : ℕ) (Stands : Reason → List ℕ → Type 0) (e : ReadError)
    → e ≡ Refused (record { reason = NoValue; at = at }) → Stands NoValue (drop at text)
    → UnlessNoMemory e (λ refusal. RefusedAt text refusal Stands)
refused_value text at Stands e is h =
    let P : ReadError → Type 0 = λ x. UnlessNoMemory x (λ refusal. RefusedAt text refusal Stands) in
    subst P (sym is) h

module _ {V : Type 0} (Means : Json → V → Type 0) (text : List ℕ) where
  -- where no scalar stands none is read
  pub refused_scalar : (old : List ℕ) (e : ReadError)
      → UnlessNoMemory e (λ refusal. RefusedAt text refusal (NoScalarHere old))
      → UnlessNoMemory e (λ refusal. RefusedAt text refusal (Refuses Means old))
  refused_scalar old (Refused refusal) h = no_scalar refusal.reason (drop refusal.at text) h
  refused_scalar old OutOfMemory h = tt

  -- a scalar that means no value
  pub refused_meaning : (at : ℕ) (json : Json) (new : List ℕ) (e : ReadError)
      → e ≡ Refused (record { reason = NoValue; at = at }) → ReadsValue json (drop at text) new
      → ((value : V) → Means json value → ⊥)
      → UnlessNoMemory e (λ refusal. RefusedAt text refusal (Refuses Means (drop at text)))
  refused_meaning at json new e is reads none =
      refused_value text at (Refuses Means (drop at text)) e is (no_meaning json new reads none)
