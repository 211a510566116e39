-- What a clause reads of a counted reader or writer.
use Rattle.std.specs.Prelude.{ℕ, ◌+◌, ◌-◌, ◌^◌, min, zero, suc, Result, Ok, Err}
use Rattle.wire_min.specs.declared.counted.Counted.{Counted}

-- the reader or the writer that is counted
abbrev pub device_of : {D : Type 0} → Counted D → D
device_of counted = counted.device

-- how many of its calls failed
abbrev pub failures_of : {D : Type 0} → Counted D → ℕ
failures_of counted = counted.failures

-- one failure more, up to the greatest count
abbrev pub one_more : ℕ → ℕ
one_more failures = min (failures + 1) (2 ^ 64 - 1)

-- the count after a call with this result, of which an error is a failure
abbrev pub after_call : {T : Type 0} {E : Type 0} → Result T E → ℕ → ℕ
after_call (Ok _) failures = failures
after_call (Err _) failures = one_more failures

-- the count after a write with this result, of which an error and 0 bytes taken are failures
abbrev pub after_write : {E : Type 0} → Result ℕ E → ℕ → ℕ
after_write (Ok zero) failures = one_more failures
after_write (Ok (suc _)) failures = failures
after_write (Err _) failures = one_more failures
