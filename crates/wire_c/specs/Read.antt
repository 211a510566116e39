-- What a reader tells C.
use Rattle.std.specs.Prelude.{◌≡◌, ℕ, ◌+◌, ◌-◌, ◌<◌, ◌≤◌, ◌⊎◌, List, length, take, drop, Result, Ok, Err, Option, Some, None, OnErr, IfOk, IfErr, IfSome, IfNone}
use Rattle.wire_read.specs.declared.event.Event.{Event}
use Rattle.wire_read.specs.declared.event.Fault.{Fault}
use Rattle.wire_read.specs.declared.event.Value.{Value}
use Rattle.wire_read.specs.declared.event.Value.TheVariants as values
use Rattle.wire_read.specs.declared.numbers.FaultNumbers.{FaultNumbers}
use Rattle.wire_read.specs.declared.numbers.LimitNumbers.{LimitNumbers}
use Rattle.wire_read.specs.declared.reader.Reader.{Reader}
use Rattle.wire_read.specs.Budget.{read_limits}
use Rattle.wire_read.specs.Numbers.{context_of, kind_of, status_of, told_fault, value_of}
use Rattle.wire_read.specs.Reading.{Begins, Gives, IsDone, Stops, at}
use Rattle.wire_c.specs.declared.read.EventInC.{EventInC}

-- how many bytes the value has, where a payload's length is left out
abbrev pub length_in : Value → ℕ → ℕ
length_in (values.Bytes b) len = length b.now
length_in (values.Varint v) len = len
length_in (values.Fixed64 v) len = len
length_in (values.Fixed32 v) len = len
length_in values.GroupStart len = len
length_in values.GroupEnd len = len

abbrev pub length_of : Event → ℕ
length_of e = length_in e.value (e.end - e.payload)

-- the value ends where the event ends
abbrev pub told_event : Event → EventInC
told_event e = record {
  kind = kind_of e.value;
  number = e.number;
  value = value_of e.value;
  start = e.start;
  behind_tag = e.payload;
  payload = e.end - length_of e;
  length = length_of e;
}

abbrev pub next_status : Result (Option Event) Fault → ℕ
next_status (Ok (Some e)) = 0
next_status (Ok None) = 1
next_status (Err f) = status_of f.error

-- the event is told where there is one, and the fault where one stands
abbrev pub event_after : Result (Option Event) Fault → EventInC → EventInC
event_after (Ok (Some e)) before = told_event e
event_after (Ok None) before = before
event_after (Err f) before = before

abbrev pub fault_after : Result (Option Event) Fault → FaultNumbers → FaultNumbers
fault_after (Ok e) before = before
fault_after (Err f) before = told_fault f

-- the payload of the event stands at its range in the bytes
abbrev pub InPlace : List ℕ → Value → ℕ → ℕ → Type 0
InPlace all (values.Bytes b) payload length = take length (drop payload all) ≡ b.now
InPlace all (values.Varint v) payload length = Unit {0}
InPlace all (values.Fixed64 v) payload length = Unit {0}
InPlace all (values.Fixed32 v) payload length = Unit {0}
InPlace all values.GroupStart payload length = Unit {0}
InPlace all values.GroupEnd payload length = Unit {0}

-- the range of the value is one of the bytes, and ends where the event does
pub record HasRange (all : List ℕ) (e : Event) (told : EventInC) : Type 0 where
  pub ends : told.payload + told.length ≡ e.end
  pub inside : e.end ≤ length all
  pub in_place : InPlace all e.value told.payload told.length

-- what `next` of a reader answers, as C is told
pub record NextAnswers (all : List ℕ) (old new : Reader) (event event_then : EventInC)
    (fault fault_then : FaultNumbers) (status : ℕ) : Type 0 where
  pub next : Result (Option Event) Fault
  pub gives : IfOk next (λ o. IfSome o (λ e. Gives e all (at old all) (at new all)))
  pub range : IfOk next (λ o. IfSome o (λ e. HasRange all e event_then))
  pub is_done : IfOk next (λ o. IfNone o (IsDone (at old all)))
  pub unmoved : IfOk next (λ o. IfNone o (new ≡ old))
  pub stops : IfErr next (λ f. Stops f all (at old all))
  pub unchanged : OnErr next (new ≡ old)
  pub told_event : event_then ≡ event_after next event
  pub told_fault : fault_then ≡ fault_after next fault
  pub answer : status ≡ next_status next

-- a reader begins under the limits, or they have more than 100 levels
abbrev pub InitAnswers : LimitNumbers → Reader → Reader → ℕ → Type 0
InitAnswers limits old new status =
    ((limits.depth ≤ 100) × (status ≡ 0) × Begins (read_limits (context_of limits)) new)
    ⊎ ((100 < limits.depth) × (status ≡ 33) × (new ≡ old))
