-- What a sink holds, and what a put and a longer write do to it.
use Rattle.std.specs.Prelude.{◌≡◌, ◌≢◌, ℕ, ◌+◌, ◌<◌, List, [], ◌++◌, length, take, drop, ⊤}
use Rattle.std.specs.Prelude.{Option, Some, None, Result, Ok, Err, OnOk, OnErr, IfErr}
use Rattle.wire_base.specs.declared.error.EncodeError.{EncodeError}
use Rattle.wire_base.specs.declared.error.EncodeError.TheVariants.{MessageTooLarge, ExceedsBudget, OutOfMemory, LengthOverflow}

-- a slice that a sink was lent: the name of the reference, and the bytes that are not filled yet
pub record Lent : Type 0 where
  pub name : ℕ
  pub rest : List ℕ

-- What a sink holds: the bytes that were put; the most that it can count, where it counts them; and
-- the slice that it fills. One that grows has no slice.
pub record Held : Type 0 where
  pub bytes : List ℕ
  pub most : Option ℕ
  pub lent : Option Lent

-- what a sink holds that grows as long as memory lasts, and counts nothing
abbrev pub in_memory : List ℕ → Held
in_memory bytes = record { bytes = bytes; most = None; lent = None }

-- what a sink holds that fills a slice, up to a place
abbrev pub in_slice : ℕ → List ℕ → ℕ → Held
in_slice name room place = record {
  bytes = take place room;
  most = Some (length room);
  lent = Some (record { name = name; rest = drop place room });
}

-- a slice of which so many bytes more are filled
abbrev pub filled : ℕ → Option Lent → Option Lent
filled n None = None
filled n (Some slice) = Some (record { name = slice.name; rest = drop n slice.rest })

-- the same sink with a text behind what it held
abbrev pub followed_by : Held → List ℕ → Held
followed_by held text = record {
  bytes = held.bytes ++ text;
  most = held.most;
  lent = filled (length text) held.lent;
}

-- so many bytes are more than a sink can count; a sink with no such bound holds what memory holds
abbrev pub IsBeyond : Option ℕ → ℕ → Type 0
IsBeyond None total = ⊥
IsBeyond (Some most) total = most < total

-- a sink that may want memory
abbrev pub Grows : Option Lent → Type 0
Grows None = ⊤
Grows (Some slice) = ⊥

-- A put that would bring a sink to so many bytes answers `LengthOverflow` exactly where these are
-- beyond its count, and is refused otherwise for want of memory alone.
abbrev pub PutAnswers : Option ℕ → ℕ → Result (Unit {0}) EncodeError → Type 0
PutAnswers bound total (Ok _) = ¬ IsBeyond bound total
PutAnswers bound total (Err LengthOverflow) = IsBeyond bound total
PutAnswers bound total (Err OutOfMemory) = ¬ IsBeyond bound total
PutAnswers bound total (Err MessageTooLarge) = ⊥
PutAnswers bound total (Err (ExceedsBudget len max_bytes)) = ⊥

-- A longer write of a text behind old succeeds only where all of it is within the sink's count, and
-- answers `LengthOverflow` only where it is beyond. Memory may be refused before either is known.
abbrev pub WriteAnswers : Option ℕ → List ℕ → List ℕ → Result (Unit {0}) EncodeError → Type 0
WriteAnswers bound old text (Ok _) = text ≢ [] → ¬ IsBeyond bound (length old + length text)
WriteAnswers bound old text (Err LengthOverflow) = IsBeyond bound (length old + length text)
WriteAnswers bound old text (Err OutOfMemory) = Unit {0}
WriteAnswers bound old text (Err MessageTooLarge) = ⊥
WriteAnswers bound old text (Err (ExceedsBudget len max_bytes)) = ⊥

-- a refused write of a text leaves a front of it behind what was held
pub record KeepsFront (old : Held) (text : List ℕ) (new : Held) : Type 0 where
  pub front : List ℕ
  pub rest : List ℕ
  pub parts : text ≡ front ++ rest
  pub held : new ≡ followed_by old front

-- a put of a text: all of it behind old, or nothing and the cause
pub record Puts (text : List ℕ) (old new : Held) (result : Result (Unit {0}) EncodeError)
    : Type 0 where
  pub ok : OnOk result (new ≡ followed_by old text)
  pub err : OnErr result (new ≡ old)
  pub cause : PutAnswers old.most (length old.bytes + length text) result
  pub memory : IfErr result (λ e. e ≡ OutOfMemory → Grows old.lent)

-- a longer write of a text: all of it behind old, or a front of it and the cause
pub record Writes (text : List ℕ) (old new : Held) (result : Result (Unit {0}) EncodeError)
    : Type 0 where
  pub ok : OnOk result (new ≡ followed_by old text)
  pub err : OnErr result (KeepsFront old text new)
  pub cause : WriteAnswers old.most old.bytes text result
  pub memory : IfErr result (λ e. e ≡ OutOfMemory → Grows old.lent)

-- a front of the whole text was written behind old, and left is what is not written yet
pub record IsWrittenTo (whole : List ℕ) (old now : Held) (left : List ℕ) : Type 0 where
  pub front : List ℕ
  pub parts : whole ≡ front ++ left
  pub written : Writes front old now (Ok tt)
