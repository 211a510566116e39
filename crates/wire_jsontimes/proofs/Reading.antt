-- What is refused as a string is refused as a duration.
use Rattle.std.proofs.Common.{◌≡◌, ℕ, List, Some, None, refl, sym, ap, ◌∙◌}
use Rattle.std.specs.Prelude.{ℤ}
use Rattle.wire_json.specs.Json.{Json, null, boolean, number, string, array, object}
use Rattle.wire_protojson.specs.declared.refusal.ReadError.{ReadError}
use Rattle.wire_protojson.specs.declared.refusal.ReadError.TheVariants.{Refused, OutOfMemory}
use Rattle.wire_protojson.specs.declared.refusal.Reason.{Reason}
use Rattle.wire_protojson.specs.Reads.{Refuses, RefusedAt, UnlessNoMemory, no_meaning, no_scalar}
use Rattle.wire_protojson.specs.Scalars.{MeansString}
use Rattle.wire_jsontimes.specs.Durations.{MeansDuration, duration_of}
use Rattle.wire_jsontimes.specs.Timestamps.{MeansTimestamp, timestamp_of}

-- what means a value is a string
abbrev pub IsOfStrings : {V : Type 0} → (Json → V → Type 0) → Type 0
IsOfStrings {V} Means =
    (json : Json) (v : V) → Means json v → (bytes : List ℕ) × MeansString json bytes

module _ {V : Type 0} (Means : Json → V → Type 0) (of_strings : IsOfStrings Means)
    (text old : List ℕ) where
  no_string : (r : Reason) (left : List ℕ) → Refuses MeansString old r left
      → Refuses Means old r left
  no_string r left (no_scalar s here h) = no_scalar s here h
  no_string r left (no_meaning json new reads none) =
      no_meaning json new reads
      (λ v means. let (bytes, is) = of_strings json v means in none bytes is)

  pub refused_string : (e : ReadError)
      → UnlessNoMemory e (λ refusal. RefusedAt text refusal (Refuses MeansString old))
      → UnlessNoMemory e (λ refusal. RefusedAt text refusal (Refuses Means old))
  refused_string (Refused refusal) h = no_string refusal.reason _ h
  refused_string OutOfMemory h = tt

-- ---- durations

pub duration_is_string : IsOfStrings MeansDuration
duration_is_string (string bytes) v means = (bytes, refl)
duration_is_string null v means = absurd means
duration_is_string (boolean b) v means = absurd means
duration_is_string (number text) v means = absurd means
duration_is_string (array es) v means = absurd means
duration_is_string (object ms) v means = absurd means

pub no_duration : (json : Json) (bytes : List ℕ) → MeansString json bytes
    → duration_of bytes ≡ None → (v : ℤ × ℤ) → MeansDuration json v → ⊥
no_duration (string text) bytes is none v means =
    absurd (unlike (sym means ∙ ap duration_of is ∙ none))
  where
    unlike : Some v ≡ None → ⊥
    unlike h = absurd cc
no_duration null bytes is none v means = means
no_duration (boolean b) bytes is none v means = means
no_duration (number text) bytes is none v means = means
no_duration (array es) bytes is none v means = means
no_duration (object ms) bytes is none v means = means

-- ---- timestamps

pub timestamp_is_string : IsOfStrings MeansTimestamp
timestamp_is_string (string bytes) v means = (bytes, refl)
timestamp_is_string null v means = absurd means
timestamp_is_string (boolean b) v means = absurd means
timestamp_is_string (number text) v means = absurd means
timestamp_is_string (array es) v means = absurd means
timestamp_is_string (object ms) v means = absurd means

pub no_timestamp : (json : Json) (bytes : List ℕ) → MeansString json bytes
    → timestamp_of bytes ≡ None → (v : ℤ × ℤ) → MeansTimestamp json v → ⊥
no_timestamp (string text) bytes is none v means =
    absurd (unlike (sym means ∙ ap timestamp_of is ∙ none))
  where
    unlike : Some v ≡ None → ⊥
    unlike h = absurd cc
no_timestamp null bytes is none v means = means
no_timestamp (boolean b) bytes is none v means = means
no_timestamp (number text) bytes is none v means = means
no_timestamp (array es) bytes is none v means = means
no_timestamp (object ms) bytes is none v means = means

pub timestamp_meant : (json : Json) (bytes : List ℕ) (v : ℤ × ℤ) → MeansString json bytes
    → timestamp_of bytes ≡ Some v → MeansTimestamp json v
timestamp_meant (string text) bytes v is h = ap timestamp_of is ∙ h
timestamp_meant null bytes v is h = absurd is
timestamp_meant (boolean b) bytes v is h = absurd is
timestamp_meant (number text) bytes v is h = absurd is
timestamp_meant (array es) bytes v is h = absurd is
timestamp_meant (object ms) bytes v is h = absurd is
