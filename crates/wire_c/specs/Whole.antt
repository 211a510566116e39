-- What calls on all of some bytes tell C.
use Rattle.wire_c.specs.declared.whole.RangeInC.{RangeInC}
use Rattle.wire_read.specs.declared.last.Place.{Place}
use Rattle.std.specs.Prelude.{◌≡◌, ℕ, ◌<◌, ◌≤◌, ◌⊎◌, List, Result, OnOk, OnErr, IfOk, IfErr, [], Option, Some, None, Ok, Err}
use Rattle.wire_base.specs.declared.error.DecodeError.{DecodeError}
use Rattle.wire_base.specs.Charge.{charge}
use Rattle.wire_base.specs.Ending.{by_input}
use Rattle.wire_base.specs.Fault.{ListFault}
use Rattle.wire_base.specs.Field.{Fields}
use Rattle.wire_base.specs.Limits.{Limits, Fits, uncounted}
use Rattle.wire_base.specs.Spells.{Spells}
use Rattle.wire_base.specs.Tag.{wire_number}
use Rattle.wire_base.specs.Text.{size, text_of}
use Rattle.wire_read.specs.declared.event.Fault.{Fault}
use Rattle.wire_read.specs.declared.numbers.FaultNumbers.{FaultNumbers}
use Rattle.wire_read.specs.declared.numbers.LimitNumbers.{LimitNumbers}
use Rattle.wire_read.specs.Faults.{IsFault}
use Rattle.wire_read.specs.Last.{FoundLast}
use Rattle.wire_read.specs.Numbers.{status_of, told_fault}
use Rattle.wire_write.specs.declared.shortest.ShortestError.{ShortestError}
use Rattle.wire_write.specs.declared.shortest.ShortestError.TheVariants as errors
use Rattle.wire_base.specs.WriteLaws.{FillsSlice}
use Rattle.wire_write.specs.Shortest.{SpellsIn, ShortestFault}

-- the limits have at most 100 levels, and the call does as is said; or they have more, and nothing
-- changes
abbrev pub WithLevels : LimitNumbers → Type 0 → ℕ → Type 0 → Type 0
WithLevels limits does status unchanged =
    ((limits.depth ≤ 100) × does) ⊎ ((100 < limits.depth) × (status ≡ 33) × unchanged)

-- all of the bytes spell records within the limits, or the fault is told
pub record Validates (l : Limits) (all : List ℕ) (before after : FaultNumbers)
    (status : ℕ) : Type 0 where
  pub checked : Result (Unit {0}) Fault
  pub ok : OnOk checked ((fs : Fields) × SpellsIn l fs all × (status ≡ 0) × (after ≡ before))
  pub fault : IfErr checked (IsFault l all)
  pub told : IfErr checked (λ f. (after ≡ told_fault f) × (status ≡ status_of f.error))

-- the length of the shortest encoding is told, or the fault
pub record TellsSize (l : Limits) (all : List ℕ) (len len_then : ℕ) (before after : FaultNumbers)
    (status : ℕ) : Type 0 where
  pub measured : Result ℕ Fault
  pub ok : IfOk measured (λ n. (fs : Fields) × SpellsIn l fs all × (n ≡ size fs))
  pub fault : IfErr measured (IsFault l all)
  pub told_ok : IfOk measured (λ n. (len_then ≡ n) × (after ≡ before) × (status ≡ 0))
  pub told_fault : IfErr measured
      (λ f. (len_then ≡ len) × (after ≡ told_fault f) × (status ≡ status_of f.error))

-- what C is told of a refusal: the fault, or how much room is wanted
abbrev pub ToldError : ShortestError → ℕ → ℕ → FaultNumbers → FaultNumbers → ℕ → Type 0
ToldError (errors.Fault f) len len_then before after status =
    (len_then ≡ len) × (after ≡ told_fault f) × (status ≡ status_of f.error)
ToldError (errors.NoRoom wanted) len len_then before after status =
    (len_then ≡ wanted) × (after ≡ before) × (status ≡ 32)

-- the shortest encoding stands at the front of the room, or a refusal is told
pub record Shortens (l : Limits) (all old new : List ℕ) (len len_then : ℕ)
    (before after : FaultNumbers) (status : ℕ) : Type 0 where
  pub written : Result ℕ ShortestError
  pub ok : IfOk written (λ n. (fs : Fields) × SpellsIn l fs all × FillsSlice (text_of fs) 0 old new n)
  pub err : IfErr written (ShortestFault l all old)
  pub unchanged : OnErr written (new ≡ old)
  pub told_ok : IfOk written (λ n. (len_then ≡ n) × (after ≡ before) × (status ≡ 0))
  pub told_error : IfErr written (λ e. ToldError e len len_then before after status)

abbrev pub told_range : Place → RangeInC
told_range p = record {
  wire_type = wire_number p.wire_type;
  start = p.start;
  behind_tag = p.payload;
  end = p.end;
}

abbrev pub find_status : Result (Option Place) DecodeError → ℕ
find_status (Ok (Some p)) = 0
find_status (Ok None) = 34
find_status (Err e) = status_of e

abbrev pub range_after : Result (Option Place) DecodeError → RangeInC → RangeInC
range_after (Ok (Some p)) before = told_range p
range_after (Ok None) before = before
range_after (Err e) before = before

-- the range of the last record of the number is told, or that there is none, or the fault
pub record Finds (number depth : ℕ) (all : List ℕ) (before after : RangeInC)
    (status : ℕ) : Type 0 where
  pub found : Result (Option Place) DecodeError
  pub ok : IfOk found (λ o. (fs : Fields) × Spells fs all × Fits (charge fs) (uncounted depth)
      × FoundLast number fs all [] o)
  pub fault : IfErr found (ListFault (uncounted depth) by_input all)
  pub told : after ≡ range_after found before
  pub answer : status ≡ find_status found
