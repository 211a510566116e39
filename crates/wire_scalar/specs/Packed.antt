-- Packed payloads: the texts of many elements, one after another.
use Rattle.std.specs.Prelude.{◌≡◌, ◌≢◌, ◌⊎◌, ℕ, ◌%◌, List, [], ◌∷◌, ◌++◌, length, map}
use Rattle.wire_base.specs.declared.error.DecodeError.{DecodeError}
use Rattle.wire_base.specs.declared.error.DecodeError.TheVariants.{OutOfMemory, UnexpectedEof}
use Rattle.wire_base.specs.Varint.{IsSpelling, VarintFault}
use Rattle.wire_scalar.specs.ValueMap.{ValueMap}

-- the text is a text of each number, in order
abbrev pub SpellsEach : (ℕ → List ℕ → Type 0) → List ℕ → List ℕ → Type 0
SpellsEach IsText [] text = text ≡ []
SpellsEach IsText (x ∷ xs) text =
    (one : List ℕ) × (more : List ℕ) × (text ≡ one ++ more)
    × IsText x one × SpellsEach IsText xs more

-- the payload is a text of each of some numbers, and their values stand in after behind before
pub record Appends {T : Type 0} (IsText : ℕ → List ℕ → Type 0) (values : ValueMap T)
    (payload : List ℕ) (before after : List T) : Type 0 where
  pub numbers : List ℕ
  pub spelled : SpellsEach IsText numbers payload
  pub appended : after ≡ before ++ map values.dec numbers

-- the same for a front of the payload, and not for the whole of one that has some bytes
pub record AppendsPart {T : Type 0} (IsText : ℕ → List ℕ → Type 0) (values : ValueMap T)
    (payload : List ℕ) (before after : List T) : Type 0 where
  pub front : List ℕ
  pub rest : List ℕ
  pub parts : payload ≡ front ++ rest
  pub unfinished : payload ≢ [] → rest ≢ []
  pub appended : Appends IsText values front before after

-- why elements of so many bytes are not appended: the payload ends within one, or it is of whole
-- ones and memory was refused
abbrev pub FixedRefusal : ℕ → List ℕ → DecodeError → Type 0
FixedRefusal size payload e =
    ((e ≡ UnexpectedEof) × (length payload % size ≢ 0))
    ⊎ ((e ≡ OutOfMemory) × (length payload % size ≡ 0))

-- the payload is a varint of each of these numbers and then bytes that begin with no varint, for
-- this fault
pub record BreaksOff (numbers payload : List ℕ) (e : DecodeError) : Type 0 where
  pub front : List ℕ
  pub rest : List ℕ
  pub parts : payload ≡ front ++ rest
  pub spelled : SpellsEach IsSpelling numbers front
  pub more : rest ≢ []
  pub fault : VarintFault rest e

-- the values of the numbers before a fault stand in after behind before
pub record StopsAtFault {T : Type 0} (values : ValueMap T) (payload : List ℕ)
    (before after : List T) (e : DecodeError) : Type 0 where
  pub numbers : List ℕ
  pub broken : BreaksOff numbers payload e
  pub appended : after ≡ before ++ map values.dec numbers
