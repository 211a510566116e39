-- What a put answers to C.
use Rattle.std.specs.Prelude.{◌≡◌, ℕ, List, Result, Ok, Err}
use Rattle.wire_write.specs.declared.put.PutError.{PutError}
use Rattle.wire_write.specs.declared.put.PutError.TheVariants.{InvalidFieldNumber, NoRoom}
use Rattle.wire_write.specs.Put.{PutsOrNot}
use Rattle.wire_c.specs.declared.put.Writer.{Writer}

abbrev pub put_status : Result ℕ PutError → ℕ
put_status (Ok behind) = 0
put_status (Err InvalidFieldNumber) = 5
put_status (Err (NoRoom wanted)) = 32

-- the place goes behind what is written, and a refusal for want of room says how much it wants
abbrev pub told : Result ℕ PutError → Writer → Writer
told (Ok behind) w = record { place = behind; wanted = 0 }
told (Err InvalidFieldNumber) w = record { place = w.place; wanted = 0 }
told (Err (NoRoom wanted)) w = record { place = w.place; wanted = wanted }

-- a record of this number and text was put, or was refused, and C is told so
pub record TellsPut (number : ℕ) (text : List ℕ) (old new : List ℕ) (before after : Writer)
    (status : ℕ) : Type 0 where
  pub put : Result ℕ PutError
  pub result : PutsOrNot number text before.place old new put
  pub writer : after ≡ told put before
  pub answer : status ≡ put_status put
