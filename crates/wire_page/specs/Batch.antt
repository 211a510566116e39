-- Events in batches.
use Rattle.std.specs.Prelude.{◌≡◌, ℕ, List, [], ◌∷◌, ◌++◌, length, drop}
use Rattle.wire_read.specs.declared.event.Event.{Event}
use Rattle.wire_read.specs.declared.event.Fault.{Fault}
use Rattle.wire_read.specs.declared.numbers.FaultNumbers.{FaultNumbers}
use Rattle.wire_read.specs.Numbers.{told_fault}
use Rattle.wire_read.specs.Reading.{At, Gives, IsDone, Stops}
use Rattle.wire_page.specs.declared.record.Record.{Record}
use Rattle.wire_page.specs.Told.{page_record, stopped}

-- the records tell events that a reader gives one behind the other, from s to t
abbrev pub Tells : List ℕ → List Record → At → At → Type 0
Tells all [] s t = s ≡ t
Tells all (told ∷ more) s t =
    (e : Event) × (m : At) × Gives e all s m × (told ≡ page_record e) × Tells all more m t

-- why a batch ends at t: the room is full, all is read, or a fault stands there
pub data BatchEnds : List ℕ → At → List Record → ℕ → FaultNumbers → Type 0 where
  full : {all : List ℕ} {t : At} {room : List Record} {count : ℕ} {stop : FaultNumbers}
      → count ≡ length room → stop ≡ stopped 0 → BatchEnds all t room count stop
  done : {all : List ℕ} {t : At} {room : List Record} {count : ℕ} {stop : FaultNumbers}
      → IsDone t → stop ≡ stopped 1 → BatchEnds all t room count stop
  fault : {all : List ℕ} {t : At} {room : List Record} {count : ℕ} {stop : FaultNumbers} (f : Fault)
      → Stops f all t → stop ≡ told_fault f → BatchEnds all t room count stop

-- so many events stand at the front of the room, and all else of it is as it was
pub record Fills (all : List ℕ) (s t : At) (old new : List Record) (count : ℕ) : Type 0 where
  pub told : List Record
  pub tells : Tells all told s t
  pub many : length told ≡ count
  pub written : new ≡ told ++ drop count old

pub record Batch (all : List ℕ) (s t : At) (old new : List Record) (count : ℕ)
    (stop : FaultNumbers) : Type 0 where
  pub fills : Fills all s t old new count
  pub ends : BatchEnds all t old count stop
