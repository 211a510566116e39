-- What holds of tags. Each statement is proved as the contract of a law of src/laws.rt.
use Rattle.std.specs.Prelude.{◌≡◌, ℕ, ◌≤◌, ◌⊎◌, List, ◌++◌, length}
use Rattle.wire_base.specs.declared.error.DecodeError.{DecodeError}
use Rattle.wire_base.specs.declared.tag.WireType.{WireType}
use Rattle.wire_base.specs.FieldNumber.{IsFieldNumber}
use Rattle.wire_base.specs.Read.{Reads}
use Rattle.wire_base.specs.Tag.{IsTagSpelling, tag_text, TagFault}

abbrev pub TagTextReadsBack : Type 0
TagTextReadsBack =
    (n : ℕ) (w : WireType) (rest : List ℕ) → IsFieldNumber n
    → Reads (tag_text n w ++ rest) (IsTagSpelling n w) rest

abbrev pub OneTag : Type 0
OneTag =
    (bytes r s : List ℕ) (n k : ℕ) (w x : WireType)
    → Reads bytes (IsTagSpelling n w) r → Reads bytes (IsTagSpelling k x) s
    → (n ≡ k) × (w ≡ x) × (r ≡ s)

abbrev pub NoTagBesideFault : Type 0
NoTagBesideFault =
    (bytes rest : List ℕ) (n : ℕ) (w : WireType) (e : DecodeError)
    → Reads bytes (IsTagSpelling n w) rest → TagFault bytes e → ⊥

abbrev pub NoTagTextIsShorter : Type 0
NoTagTextIsShorter =
    (n : ℕ) (w : WireType) (text : List ℕ) → IsTagSpelling n w text
    → length (tag_text n w) ≤ length text

abbrev pub OneTagFault : Type 0
OneTagFault = (bytes : List ℕ) (e f : DecodeError) → TagFault bytes e → TagFault bytes f → e ≡ f

abbrev pub TagOrFault : List ℕ → Type 0
TagOrFault bytes =
    ((n : ℕ) × (w : WireType) × (rest : List ℕ) × Reads bytes (IsTagSpelling n w) rest)
    ⊎ ((e : DecodeError) × TagFault bytes e)

abbrev pub TagOrFaultStands : Type 0
TagOrFaultStands = (bytes : List ℕ) → TagOrFault bytes
