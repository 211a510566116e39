-- What a put of a record at a place of a room answers.
use Rattle.std.specs.Prelude.{◌≡◌, ℕ, ◌+◌, ◌-◌, ◌^◌, ◌<◌, List, length, min}
use Rattle.std.specs.Prelude.{Result, OnOk, OnErr, IfOk, IfErr}
use Rattle.wire_base.specs.FieldNumber.{IsFieldNumber}
use Rattle.wire_base.specs.WriteLaws.{FillsSlice}
use Rattle.wire_write.specs.declared.put.PutError.{PutError}
use Rattle.wire_write.specs.declared.put.PutError.TheVariants.{InvalidFieldNumber, NoRoom}

-- a record of this number and text is none, or has no room at the place
pub data PutFault : ℕ → List ℕ → ℕ → List ℕ → PutError → Type 0 where
  no_number : {number place : ℕ} {text old : List ℕ} → ¬ IsFieldNumber number
      → PutFault number text place old InvalidFieldNumber
  no_room : {number place : ℕ} {text old : List ℕ} (wanted : ℕ) → IsFieldNumber number
      → length old < place + length text → wanted ≡ min (length text) (2 ^ 64 - 1)
      → PutFault number text place old (NoRoom wanted)

-- what a put of a record of this number and text answers, and what stands in the room then
pub record PutsOrNot (number : ℕ) (text : List ℕ) (place : ℕ) (old new : List ℕ)
    (result : Result ℕ PutError) : Type 0 where
  pub ok : IfOk result (FillsSlice text place old new)
  pub valid : OnOk result (IsFieldNumber number)
  pub err : IfErr result (PutFault number text place old)
  pub unchanged : OnErr result (new ≡ old)
