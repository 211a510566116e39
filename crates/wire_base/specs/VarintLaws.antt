-- What holds of varints and of length-delimited payloads. Each statement is proved as the contract
-- of a law of src/laws.rt.
use Rattle.std.specs.Prelude.{◌≡◌, ℕ, ◌^◌, ◌<◌, ◌≤◌, ◌⊎◌, List, [], ◌++◌, length, All, Option}
use Rattle.wire_base.specs.declared.error.DecodeError.{DecodeError}
use Rattle.wire_base.specs.Delimited.{IsDelimited, DelimitedFault, delimited_text}
use Rattle.wire_base.specs.Limits.{HasRoom}
use Rattle.wire_base.specs.Read.{Reads}
use Rattle.wire_base.specs.Varint.{IsSpelling, shortest_varint, VarintFault}

-- ---- varints

abbrev pub ShortestReadsBack : Type 0
ShortestReadsBack =
    (v : ℕ) (rest : List ℕ) → v < 2 ^ 64 → Reads (shortest_varint v ++ rest) (IsSpelling v) rest

abbrev pub NoSpellingBeginsAnother : Type 0
NoSpellingBeginsAnother =
    (text more : List ℕ) (v w : ℕ) → IsSpelling v text → IsSpelling w (text ++ more) → more ≡ []

abbrev pub OneVarint : Type 0
OneVarint =
    (bytes r s : List ℕ) (v w : ℕ) → Reads bytes (IsSpelling v) r → Reads bytes (IsSpelling w) s
    → (v ≡ w) × (r ≡ s)

abbrev pub NoVarintBesideFault : Type 0
NoVarintBesideFault =
    (bytes rest : List ℕ) (v : ℕ) (e : DecodeError) → Reads bytes (IsSpelling v) rest
    → VarintFault bytes e → ⊥

abbrev pub NoSpellingIsShorter : Type 0
NoSpellingIsShorter =
    (text : List ℕ) (v : ℕ) → IsSpelling v text
    → (length (shortest_varint v) ≤ length text)
    × (All (λ b. b < 256) text → length text ≡ length (shortest_varint v)
    → text ≡ shortest_varint v)

abbrev pub OneVarintFault : Type 0
OneVarintFault =
    (bytes : List ℕ) (e f : DecodeError) → VarintFault bytes e → VarintFault bytes f → e ≡ f

abbrev pub VarintOrFault : List ℕ → Type 0
VarintOrFault bytes =
    ((v : ℕ) × (rest : List ℕ) × Reads bytes (IsSpelling v) rest)
    ⊎ ((e : DecodeError) × VarintFault bytes e)

abbrev pub VarintOrFaultStands : Type 0
VarintOrFaultStands = (bytes : List ℕ) → VarintOrFault bytes

-- ---- length-delimited payloads, with a greatest length or none

abbrev pub DelimitedReadsBack : Type 0
DelimitedReadsBack =
    (payload rest : List ℕ) → length payload < 2 ^ 64
    → Reads (delimited_text payload ++ rest) (IsDelimited payload) rest

abbrev pub OneDelimited : Type 0
OneDelimited =
    (p q bytes r s : List ℕ) → Reads bytes (IsDelimited p) r → Reads bytes (IsDelimited q) s
    → (p ≡ q) × (r ≡ s)

abbrev pub NoDelimitedBesideFault : Type 0
NoDelimitedBesideFault =
    (most : Option ℕ) (payload bytes rest : List ℕ) (e : DecodeError)
    → Reads bytes (IsDelimited payload) rest → HasRoom most (length payload)
    → DelimitedFault most bytes e → ⊥

abbrev pub OneDelimitedFault : Type 0
OneDelimitedFault =
    (most : Option ℕ) (bytes : List ℕ) (e f : DecodeError)
    → DelimitedFault most bytes e → DelimitedFault most bytes f → e ≡ f

abbrev pub DelimitedOrFault : Option ℕ → List ℕ → Type 0
DelimitedOrFault most bytes =
    ((payload : List ℕ) × (rest : List ℕ) × Reads bytes (IsDelimited payload) rest
    × HasRoom most (length payload))
    ⊎ ((e : DecodeError) × DelimitedFault most bytes e)

abbrev pub DelimitedOrFaultStands : Type 0
DelimitedOrFaultStands = (most : Option ℕ) (bytes : List ℕ) → DelimitedOrFault most bytes
