-- The limits that a caller in another language names, and what is read within them.
use Rattle.std.specs.Prelude.{◌≡◌, ℕ, List, min}
use Rattle.wire_codec.specs.Limits.{Limits, counted, with_unknown_bytes}
use Rattle.wire_codec.specs.Taking.{Decodes}
use Rattle.wire_fields.specs.Shape.{Shape}
use Rattle.wire_read.specs.declared.numbers.LimitNumbers.{LimitNumbers}

-- of the levels no more than 100 are given
abbrev pub within_numbers : LimitNumbers → Limits
within_numbers l = with_unknown_bytes (counted (min l.depth 100) l.records) l.payload_bytes

-- the bytes are a value of the shape within the limits, of which w is seen
abbrev pub DecodesSeen : {V W : Type 0} → Shape V → (V → W) → Limits → List ℕ → W → Type 0
DecodesSeen {V} s seen l bytes w = (v : V) × Decodes s.takes l s.default bytes v × (w ≡ seen v)
