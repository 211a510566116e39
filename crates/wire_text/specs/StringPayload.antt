-- A length-delimited payload that is UTF-8.
use Rattle.std.specs.Prelude.{◌≡◌, ◌⊎◌, List, ℕ, None, IsUtf8}
use Rattle.wire_base.specs.declared.error.DecodeError.{DecodeError}
use Rattle.wire_base.specs.declared.error.DecodeError.TheVariants.{InvalidUtf8, OutOfMemory}
use Rattle.wire_base.specs.Delimited.{IsDelimited, DelimitedFault}
use Rattle.wire_base.specs.Read.{Reads}
use Rattle.wire_text.specs.BytesPayload.{HasPayload}

-- the text is the length of the payload, padded with zeros or not, and the payload, which is UTF-8
pub record IsString (payload text : List ℕ) : Type 0 where
  pub delimited : IsDelimited payload text
  pub utf8 : IsUtf8 payload

-- no string stands at the front of these bytes, with the error that says why
pub data StringFault : List ℕ → DecodeError → Type 0 where
  no_payload : {bytes : List ℕ} {e : DecodeError}
      → DelimitedFault None bytes e → StringFault bytes e
  not_utf8 : {bytes : List ℕ} (payload rest : List ℕ)
      → Reads bytes (IsDelimited payload) rest → ¬ IsUtf8 payload → StringFault bytes InvalidUtf8

-- the fault of the string, or want of memory for a payload that is there
abbrev pub StringRefusal : List ℕ → DecodeError → Type 0
StringRefusal bytes e = StringFault bytes e ⊎ ((e ≡ OutOfMemory) × HasPayload bytes)
