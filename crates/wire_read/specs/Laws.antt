-- What holds of a reader's places. Each statement is proved as the contract of a law.
use Rattle.std.specs.Prelude.{◌≡◌, ℕ, ◌<◌, List, [], ◌∷◌, ◌++◌, length}
use Rattle.wire_base.specs.declared.error.DecodeError.{DecodeError}
use Rattle.wire_base.specs.Charge.{charge}
use Rattle.wire_base.specs.Ending.{by_input, GoesOn}
use Rattle.wire_base.specs.Fault.{ListFault}
use Rattle.wire_base.specs.Field.{Fields}
use Rattle.wire_base.specs.Items.{Item}
use Rattle.wire_base.specs.Limits.{Limits, Fits}
use Rattle.wire_base.specs.Spells.{Spells}
use Rattle.wire_read.specs.declared.event.Fault.{Fault}
use Rattle.wire_read.specs.declared.event.Part.{Part}
use Rattle.wire_read.specs.declared.reader.Reader.{Reader}
use Rattle.wire_read.specs.Faults.{IsFault}
use Rattle.wire_read.specs.Opened.{Group, LongestFront, TakesOpen, ending_of, items_of, items_open, left_open, numbers}
use Rattle.wire_read.specs.PartFault.{PartFault}
use Rattle.wire_read.specs.Reading.{At, Begins, IsAt, IsDone, Moves, Stops, facing}
use Rattle.wire_read.specs.Rebuilt.{rebuilt}

-- before the first event
abbrev pub ReaderBegins : Type 0
ReaderBegins =
    (l : Limits) (r : Reader) (all : List ℕ) → Begins l r → IsAt l all [] (facing r all)

-- one event more
abbrev pub ReaderGoesOn : Type 0
ReaderGoesOn = (l : Limits) (all : List ℕ) (items : List Item) (i : Item) (s t : At) (behind : List ℕ)
    → IsAt l all items s → Moves i s behind t → IsAt l all (items ++ i ∷ []) t

-- an event takes a byte at least, so that a loop over events ends
abbrev pub ReaderMovesOn : Type 0
ReaderMovesOn =
    (i : Item) (s t : At) (behind : List ℕ) → Moves i s behind t → length t.rest < length s.rest

-- the end: the events are those of the records that all of the bytes spell
abbrev pub ReaderIsDone : Type 0
ReaderIsDone = (l : Limits) (all : List ℕ) (items : List Item) (s : At)
    → IsAt l all items s → IsDone s
    → (fs : Fields) × Spells fs all × Fits (charge fs) l × (items ≡ items_of fs)

-- a fault is that of the list
abbrev pub ReaderIsStuck : Type 0
ReaderIsStuck = (l : Limits) (all : List ℕ) (items : List Item) (s : At) (part : Part)
    (place : List ℕ) (e : DecodeError)
    → IsAt l all items s → GoesOn (ending_of s.groups) s.rest
    → PartFault s.limits (ending_of s.groups) s.rest part place e → ListFault l by_input all e

-- a fault stands behind the longest front
abbrev pub FaultIsBehindLongest : Type 0
FaultIsBehindLongest = (l : Limits) (all : List ℕ) (levels : List Group) (fs : Fields)
    (rest : List ℕ) (part : Part) (place : List ℕ) (e : DecodeError)
    → TakesOpen l levels fs all rest
    → PartFault (left_open l levels fs) (ending_of (numbers levels)) rest part place e
    → LongestFront l levels fs all rest

-- and where a fault stands behind it, the longest front is one: in its open groups, its records,
-- and what follows it
abbrev pub OneLongestFront : Type 0
OneLongestFront = (l : Limits) (all : List ℕ) (levels outer : List Group) (fs gs : Fields)
    (rest other : List ℕ) → LongestFront l levels fs all rest → LongestFront l outer gs all other
    → (levels ≡ outer) × (fs ≡ gs) × (rest ≡ other)

-- one part is at fault, from one byte, with one error
abbrev pub OnePartFault : Type 0
OnePartFault = (l : Limits) (levels : List ℕ) (rest : List ℕ) (part other : Part)
    (place end : List ℕ) (e f : DecodeError)
    → PartFault l (ending_of levels) rest part place e
    → PartFault l (ending_of levels) rest other end f
    → (part ≡ other) × (place ≡ end) × (e ≡ f)

-- where a reader stops, its fault is that of all of the bytes, and stands there: behind the items
-- so far, in the groups that are open
abbrev pub ReaderStops : Type 0
ReaderStops = (l : Limits) (all : List ℕ) (items : List Item) (s : At) (fault : Fault)
    → IsAt l all items s → Stops fault all s
    → (is : IsFault l all fault) × (s.rest ≡ is.rest) × (s.groups ≡ numbers is.levels)
    × (items ≡ items_open is.levels is.fields)

-- bytes have one fault at most
abbrev pub OneFault : Type 0
OneFault = (l : Limits) (all : List ℕ) (fault other : Fault)
    → IsFault l all fault → IsFault l all other → fault ≡ other

-- records put together again from their items
abbrev pub ItemsTellRecords : Type 0
ItemsTellRecords = (levels : List Group) (fs : Fields)
    → rebuilt (items_open levels fs) ≡ record { levels = levels; fields = fs }

-- where all of the bytes spell records within the limits, the events so far are the first of theirs
abbrev pub EventsAreInFront : Type 0
EventsAreInFront = (l : Limits) (all : List ℕ) (items : List Item) (s : At) (fs : Fields)
    → IsAt l all items s → Spells fs all → Fits (charge fs) l
    → (more : List Item) × (items_of fs ≡ items ++ more)
