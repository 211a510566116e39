-- The records of handed-in bytes that no field of a message owns.
use Rattle.std.specs.Prelude.{◌≡◌, ◌≤◌, ℕ, Bool, true, false, List}
use Rattle.wire_codec.specs.Charge.{charge}
use Rattle.wire_codec.specs.DecodeError.{DecodeError}
use Rattle.wire_codec.specs.Ending.{by_input}
use Rattle.wire_codec.specs.Fault.{ListFault}
use Rattle.wire_codec.specs.Field.{Payload, Fields, none, field}
use Rattle.wire_codec.specs.Limits.{uncounted}
use Rattle.wire_codec.specs.Records.{Records, joined_records, of_fields}
use Rattle.wire_codec.specs.Spells.{Spells}
use Rattle.wire_fields.specs.Shape.{Owns}
use Rattle.wire_read.specs.Numbers.{status_of}

-- a record in front of others, unless it is owned
abbrev pub unless_owned : Bool → ℕ → Payload → Fields → Fields
unless_owned true n p others = others
unless_owned false n p others = field n p others

-- the records that are not owned, in order
abbrev pub unowned : Owns → Fields → Fields
unowned owns none = none
unowned owns (field n p others) = unless_owned (owns n p) n p (unowned owns others)

-- all of the bytes spell these records, whose groups nest at most 100 deep
pub record SpellsShallow (bytes : List ℕ) (fs : Fields) : Type 0 where
  pub spelled : Spells fs bytes
  pub levels : (charge fs).depth ≤ 100

-- why the bytes are no such records
abbrev pub RecordsFault : List ℕ → DecodeError → Type 0
RecordsFault = ListFault (uncounted 100) by_input

-- the bytes are such records, and of those that are not owned this holds
abbrev pub OfUnknown : Owns → List ℕ → (Fields → Type 0) → Type 0
OfUnknown owns bytes Holds = (fs : Fields) × SpellsShallow bytes fs × Holds (unowned owns fs)

-- they are no such records, and this number says why
abbrev pub HasStatus : List ℕ → ℕ → Type 0
HasStatus bytes status = (e : DecodeError) × RecordsFault bytes e × (status ≡ status_of e)

-- records, and unknown fields behind them
abbrev pub with_fields : Records → Fields → Records
with_fields rs fs = joined_records rs (of_fields fs)
