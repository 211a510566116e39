-- What the calls that encode a value do, by the records of the value.
use Rattle.std.specs.Prelude.{◌≡◌, ℕ, ◌<◌, ◌≤◌, ◌⊎◌, List, length, Result, Ok, Err, OnOk, OnErr}
use Rattle.std.specs.Prelude.{IfOk, IfErr, IsErrAnd}
use Rattle.wire_base.specs.declared.error.EncodeError.{EncodeError}
use Rattle.wire_base.specs.declared.error.EncodeError.TheVariants.{MessageTooLarge, ExceedsBudget}
use Rattle.wire_base.specs.declared.error.EncodeError.TheVariants.{OutOfMemory}
use Rattle.wire_codec.specs.Records.{Records}
use Rattle.wire_codec.specs.Sizes.{sizes}
use Rattle.wire_codec.specs.Tape.{Tape}
use Rattle.wire_base.specs.Sink.{Held, Grows, KeepsFront, WriteAnswers, followed_by}

-- the sizes of the records alone, all of them read
abbrev pub read_tape : Records → Tape
read_tape rs = record { sizes = sizes rs; cursor = length (sizes rs) }

-- a refusal with this error, or for want of the memory that it takes to find out
abbrev pub IsRefused : {T : Type 0} → EncodeError → Result T EncodeError → Type 0
IsRefused why result = IsErrAnd result (λ e. (e ≡ why) ⊎ (e ≡ OutOfMemory))

-- A text is measured and then written: all of it behind old, or a front of it and the cause. Memory
-- may be wanted for the sizes too, before anything is written.
pub record Encodes (text : List ℕ) (old new : Held) (result : Result (Unit {0}) EncodeError)
    : Type 0 where
  pub ok : OnOk result (new ≡ followed_by old text)
  pub err : OnErr result (KeepsFront old text new)
  pub cause : WriteAnswers old.most old.bytes text result
  pub memory : IfErr result (λ e. e ≡ OutOfMemory → (Grows old.lent) ⊎ (new ≡ old))

-- What is asked for is answered where a message may have so many bytes. Else the call is refused.
pub record TriesToAnswer {T : Type 0} (result : Result T EncodeError) (len : ℕ)
    (IsAnswer : T → Type 0) : Type 0 where
  pub ok : IfOk result IsAnswer
  pub within : OnOk result (len ≤ 2147483647)
  pub fits : len ≤ 2147483647 → IfErr result (λ e. e ≡ OutOfMemory)
  pub too_large : 2147483647 < len → IsRefused MessageTooLarge result

-- A text is written where the message may have so many bytes. Else the call is refused, and the
-- sink stays as it was.
pub record TriesToWrite (len : ℕ) (text : List ℕ) (old new : Held)
    (result : Result (Unit {0}) EncodeError) : Type 0 where
  pub within : OnOk result (len ≤ 2147483647)
  pub fits : len ≤ 2147483647 → Encodes text old new result
  pub too_large : 2147483647 < len → IsRefused MessageTooLarge result × (new ≡ old)

-- the same call without the number that it answers
abbrev pub without_len : Result ℕ EncodeError → Result (Unit {0}) EncodeError
without_len (Ok len) = Ok tt
without_len (Err e) = Err e

-- A text is written and its length answered where a message may have as many bytes and the budget
-- allows them. Else the call is refused, and the sink stays as it was.
pub record WritesWithin (max_bytes : ℕ) (text : List ℕ) (old new : Held)
    (result : Result ℕ EncodeError) : Type 0 where
  pub ok : IfOk result (λ len. len ≡ length text)
  pub within : OnOk result ((length text ≤ 2147483647) × (length text ≤ max_bytes))
  pub fits : length text ≤ 2147483647 → length text ≤ max_bytes
      → Encodes text old new (without_len result)
  pub too_large : 2147483647 < length text → IsRefused MessageTooLarge result × (new ≡ old)
  pub over_budget : length text ≤ 2147483647 → max_bytes < length text
      → IsRefused (ExceedsBudget (length text) max_bytes) result × (new ≡ old)
