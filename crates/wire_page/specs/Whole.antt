-- What calls on all of some bytes tell the page.
use Rattle.std.specs.Prelude.{◌≡◌, ℕ, ◌-◌, List, Result, OnOk, OnErr, IfOk, IfErr, length}
use Rattle.wire_base.specs.declared.error.DecodeError.{DecodeError}
use Rattle.wire_base.specs.Field.{Fields}
use Rattle.wire_base.specs.Limits.{Limits}
use Rattle.wire_base.specs.Read.{Reads}
use Rattle.wire_base.specs.Text.{text_of}
use Rattle.wire_base.specs.Varint.{IsSpelling, VarintFault}
use Rattle.wire_read.specs.declared.event.Fault.{Fault}
use Rattle.wire_read.specs.declared.numbers.FaultNumbers.{FaultNumbers}
use Rattle.wire_read.specs.Faults.{IsFault}
use Rattle.wire_read.specs.Numbers.{status_of, told_fault}
use Rattle.wire_write.specs.declared.shortest.ShortestError.{ShortestError}
use Rattle.wire_write.specs.declared.shortest.ShortestError.TheVariants as errors
use Rattle.wire_base.specs.WriteLaws.{FillsSlice}
use Rattle.wire_write.specs.Shortest.{SpellsIn, ShortestFault}
use Rattle.wire_page.specs.Told.{stopped}

-- all of the bytes spell records within the limits, or the fault is told
pub record TellsCheck (l : Limits) (all : List ℕ) (stop : FaultNumbers) : Type 0 where
  pub checked : Result (Unit {0}) Fault
  pub ok : OnOk checked ((fs : Fields) × SpellsIn l fs all × (stop ≡ stopped 1))
  pub fault : IfErr checked (IsFault l all)
  pub told : IfErr checked (λ f. stop ≡ told_fault f)

-- what the page is told of a refusal: the fault, or how much room is wanted
abbrev pub ToldRefusal : ShortestError → ℕ → FaultNumbers → Type 0
ToldRefusal (errors.Fault f) len stop = (len ≡ 0) × (stop ≡ told_fault f)
ToldRefusal (errors.NoRoom wanted) len stop = (len ≡ wanted) × (stop ≡ stopped 0)

-- the shortest encoding stands at the front of the room, or a refusal is told
pub record TellsShortest (l : Limits) (all old new : List ℕ) (len : ℕ)
    (stop : FaultNumbers) : Type 0 where
  pub written : Result ℕ ShortestError
  pub ok : IfOk written (λ n. (fs : Fields) × SpellsIn l fs all × FillsSlice (text_of fs) 0 old new n)
  pub err : IfErr written (ShortestFault l all old)
  pub unchanged : OnErr written (new ≡ old)
  pub told_ok : IfOk written (λ n. (len ≡ n) × (stop ≡ stopped 1))
  pub told_error : IfErr written (λ e. ToldRefusal e len stop)

-- a varint stands at the front of the bytes and takes so many of them, or none does
pub record HasPrefix (all : List ℕ) (old new taken : ℕ) (stop : FaultNumbers) : Type 0 where
  pub read : Result ℕ DecodeError
  pub ok : IfOk read (λ v. (rest : List ℕ) × Reads all (IsSpelling v) rest × (new ≡ v)
      × (taken ≡ length all - length rest) × (stop ≡ stopped 1))
  pub fault : IfErr read (λ e. VarintFault all e × (new ≡ old) × (taken ≡ 0)
      × (stop ≡ stopped (status_of e)))
