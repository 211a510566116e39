-- What a type that a user plugged in makes of a payload.
use Rattle.std.specs.Prelude.{◌≡◌, ◌⊎◌, ℕ, List, ◌++◌, Result, Ok, Err, None, IsUtf8}
use Rattle.wire_base.specs.declared.error.DecodeError.{DecodeError}
use Rattle.wire_base.specs.declared.error.DecodeError.TheVariants.{InvalidUtf8, InvalidMessageSet, Custom, OutOfMemory}
use Rattle.wire_base.specs.Read.{Reads}
use Rattle.wire_base.specs.Delimited.{IsDelimited, DelimitedFault}
use Rattle.wire_text.specs.BytesPayload.{HasPayload}

-- what a type answers to the bytes of a payload: the bytes of its value, or an error
abbrev pub Answer : Type 0
Answer = Result (List ℕ) DecodeError

-- the same error, and the same text where the error has one
abbrev pub AreSameErrors : DecodeError → DecodeError → Type 0
AreSameErrors (Custom s) (Custom t) = s.now ≡ t.now
AreSameErrors (InvalidMessageSet s) (InvalidMessageSet t) = s.now ≡ t.now
AreSameErrors e f = e ≡ f

abbrev pub AreSameAnswers : Answer → Answer → Type 0
AreSameAnswers (Ok value) (Ok other) = value ≡ other
AreSameAnswers (Err e) (Err f) = AreSameErrors e f
AreSameAnswers _ _ = ⊥

-- what is answered follows from the bytes
abbrev pub IsByBytes : (List ℕ → Answer → Type 0) → Type 0
IsByBytes answers = (payload : List ℕ) (one other : Answer) → answers payload one
    → answers payload other → AreSameAnswers one other

-- a text is taken, and other bytes are refused
abbrev pub answers_text : List ℕ → Answer → Type 0
answers_text payload (Ok value) = IsUtf8 payload × (value ≡ payload)
answers_text payload (Err e) = (¬ IsUtf8 payload) × (e ≡ InvalidUtf8)

-- all bytes are taken
abbrev pub answers_all : List ℕ → Answer → Type 0
answers_all payload (Ok value) = value ≡ payload
answers_all payload (Err e) = ⊥

-- a payload stood at the front of old, the type took it for this value, and new is what follows
pub record TakesValue (answers : List ℕ → Answer → Type 0) (value old new : List ℕ) : Type 0 where
  pub payload : List ℕ
  pub read : Reads old (IsDelimited payload) new
  pub taken : answers payload (Ok value)

-- A payload that the type refused was lent to it, and is left in the buffer, or was handed over,
-- and is taken.
-- Which of the two depends on the chunks of the buffer, of which no more is known than that each is
-- a front.
abbrev pub AfterRefusal : List ℕ → List ℕ → List ℕ → Type 0
AfterRefusal payload rest new = (new ≡ payload ++ rest) ⊎ (new ≡ rest)

-- no value stood at the front of old, with the error that says why, and new is what is left
pub data ValueFault (answers : List ℕ → Answer → Type 0) (old new : List ℕ) : DecodeError
    → Type 0 where
  no_payload : {e : DecodeError} → DelimitedFault None old e → ValueFault answers old new e
  refused : {e : DecodeError} (payload rest : List ℕ) → Reads old (IsDelimited payload) rest
      → answers payload (Err e) → AfterRefusal payload rest new → ValueFault answers old new e

-- the fault of the value, or want of memory for a payload that is there
abbrev pub ValueRefusal : (List ℕ → Answer → Type 0) → List ℕ → List ℕ → DecodeError → Type 0
ValueRefusal answers old new e = ValueFault answers old new e ⊎ ((e ≡ OutOfMemory) × HasPayload old)
