-- A length-delimited payload: a length, and as many bytes.
use Rattle.std.specs.Prelude.{ℕ, ◌<◌, List, ◌++◌, length, Option}
use Rattle.wire_base.specs.declared.error.DecodeError.{DecodeError}
use Rattle.wire_base.specs.declared.error.DecodeError.TheVariants.{UnexpectedEof, MessageTooLarge}
use Rattle.wire_base.specs.Limits.{HasRoom}
use Rattle.wire_base.specs.Read.{Reads}
use Rattle.wire_base.specs.Varint.{IsSpelling, VarintFault, shortest_varint}

-- the text is the length of the payload, padded with zeros or not, and then the payload
abbrev pub IsDelimited : List ℕ → List ℕ → Type 0
IsDelimited payload text = Reads text (IsSpelling (length payload)) payload

-- the shortest of its texts
abbrev pub delimited_text : List ℕ → List ℕ
delimited_text payload = shortest_varint (length payload) ++ payload

-- No length-delimited payload of at most so many bytes, where there is a greatest length, stands at
-- the front of these bytes, with the error that says why.
pub data DelimitedFault : Option ℕ → List ℕ → DecodeError → Type 0 where
  no_length : {most : Option ℕ} {bytes : List ℕ} {e : DecodeError}
      → VarintFault bytes e → DelimitedFault most bytes e
  -- the length is more than the greatest one
  too_large : {most : Option ℕ} {bytes : List ℕ} (len : ℕ) (rest : List ℕ)
      → Reads bytes (IsSpelling len) rest → ¬ HasRoom most len
      → DelimitedFault most bytes MessageTooLarge
  -- the length is more than what stands behind it
  cut_short : {most : Option ℕ} {bytes : List ℕ} (len : ℕ) (rest : List ℕ)
      → Reads bytes (IsSpelling len) rest → HasRoom most len → length rest < len
      → DelimitedFault most bytes UnexpectedEof
