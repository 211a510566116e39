-- What holds of the definitions themselves. Each statement is proved as the contract of a law of
-- src/laws.rt.
use Rattle.std.specs.Prelude.{◌≡◌, ◌⊎◌, ℕ, ◌*◌, List, ◌++◌, length, count_by, nat_lt}
use Rattle.std.specs.Int.{Width, byte_len}
use Rattle.wire_base.specs.declared.error.DecodeError.{DecodeError}
use Rattle.wire_base.specs.Varint.{IsSpelling}
use Rattle.wire_scalar.specs.Packed.{SpellsEach, BreaksOff}
use Rattle.wire_base.specs.Fixed.{IsFixed}
use Rattle.wire_scalar.specs.Reading.{ReadsValue}
use Rattle.wire_scalar.specs.ValueMap.{ValueMap}

-- what is read from the number that is written for a value is that value
abbrev pub DecodesBack : {T : Type 0} → ValueMap T → (T → Type 0) → Type 0
DecodesBack map InRange = (value : _) → InRange value → map.dec (map.enc value) ≡ value

-- a value stands at the front of the text that is written for it, whatever follows
abbrev pub TextReadsBack : {T : Type 0} → (ℕ → List ℕ → Type 0) → (ℕ → List ℕ) → ValueMap T
    → (T → Type 0) → Type 0
TextReadsBack IsText text map InRange = (value : _) (rest : List ℕ) → InRange value
    → ReadsValue IsText map (text (map.enc value) ++ rest) value rest

-- a payload of varints has as many elements as bytes below 128
abbrev pub VarintsAreCounted : Type 0
VarintsAreCounted = (numbers text : List ℕ) → SpellsEach IsSpelling numbers text
    → count_by (λ byte. nat_lt byte 128) text ≡ length numbers

-- a payload of elements of a fixed width has the width's bytes for each
abbrev pub FixedAreMultiples : Type 0
FixedAreMultiples = (width : Width) (numbers text : List ℕ)
    → SpellsEach (IsFixed width) numbers text
    → length text ≡ byte_len width * length numbers

-- ---- packed varints

abbrev pub OnePackedList : Type 0
OnePackedList = (numbers others text : List ℕ) → SpellsEach IsSpelling numbers text
    → SpellsEach IsSpelling others text → numbers ≡ others

abbrev pub NoPackedListBesideFault : Type 0
NoPackedListBesideFault = (numbers others text : List ℕ) (e : DecodeError)
    → SpellsEach IsSpelling numbers text → BreaksOff others text e → ⊥

abbrev pub OnePackedFault : Type 0
OnePackedFault = (numbers others text : List ℕ) (e f : DecodeError)
    → BreaksOff numbers text e → BreaksOff others text f → (numbers ≡ others) × (e ≡ f)

abbrev pub PackedListOrFault : List ℕ → Type 0
PackedListOrFault text =
    ((numbers : List ℕ) × SpellsEach IsSpelling numbers text)
    ⊎ ((numbers : List ℕ) × (e : DecodeError) × BreaksOff numbers text e)

abbrev pub PackedListOrFaultStands : Type 0
PackedListOrFaultStands = (text : List ℕ) → PackedListOrFault text
