-- Bytes by their text.
use Rattle.std.proofs.Common.{ℕ, List, Option, Some, None, Result, Ok, Err, subst}
use Rattle.std.specs.Prelude.{IfOk, MatchOption}
use Rattle.wire_json.specs.Json.{Json}
use Rattle.wire_protojson.specs.DecidedScalars.{one_string_meant}
use Rattle.wire_protojson.specs.Scalars.{MeansBase64, MeansBytes, MeansString}

-- what is decoded of a string, and that nothing is
pub of_text : (json : Json) (text : List ℕ) → MeansString json text → {V : Type 0} (items : V → List ℕ)
    (read : Option V)
    → MatchOption read ((value : List ℕ) → MeansBase64 text value → ⊥) (λ v. MeansBase64 text (items v))
    → MatchOption read ((value : List ℕ) → MeansBytes json value → ⊥) (λ v. MeansBytes json (items v))
of_text json text is items (Some v) h = (text, is, h)
of_text json text is items None h = λ value means.
    let P : List ℕ → Type 0 = λ t. MeansBase64 t value in
    h value (subst P (one_string_meant json means.0 text means.1 is) means.2)

pub decoded : (json : Json) (text : List ℕ) → MeansString json text → {V E : Type 0} (items : V → List ℕ)
    (r : Result (Option V) E)
    → IfOk r (λ read. MatchOption read ((value : List ℕ) → MeansBase64 text value → ⊥)
    (λ v. MeansBase64 text (items v)))
    → IfOk r (λ read. MatchOption read ((value : List ℕ) → MeansBytes json value → ⊥)
    (λ v. MeansBytes json (items v)))
decoded json text is items (Ok read) h = of_text json text is items read h
decoded json text is items (Err e) h = tt
