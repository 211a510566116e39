-- What holds of strings. Each statement is proved as the contract of a law of src/laws.rt.
use Rattle.std.specs.Prelude.{◌≡◌, ℕ, ◌⊎◌, List}
use Rattle.wire_base.specs.declared.error.DecodeError.{DecodeError}
use Rattle.wire_base.specs.Read.{Reads}
use Rattle.wire_text.specs.StringPayload.{IsString, StringFault}

abbrev pub OneString : Type 0
OneString =
    (p q bytes r s : List ℕ) → Reads bytes (IsString p) r → Reads bytes (IsString q) s
    → (p ≡ q) × (r ≡ s)

abbrev pub NoStringBesideFault : Type 0
NoStringBesideFault =
    (payload bytes rest : List ℕ) (e : DecodeError) → Reads bytes (IsString payload) rest
    → StringFault bytes e → ⊥

abbrev pub OneStringFault : Type 0
OneStringFault =
    (bytes : List ℕ) (e f : DecodeError) → StringFault bytes e → StringFault bytes f → e ≡ f

abbrev pub StringOrFaultStands : Type 0
StringOrFaultStands =
    (bytes : List ℕ)
    → ((payload : List ℕ) × (rest : List ℕ) × Reads bytes (IsString payload) rest)
    ⊎ ((e : DecodeError) × StringFault bytes e)
