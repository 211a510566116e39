-- What a run takes, what it refuses, and what it writes.
use Rattle.std.specs.Prelude.{◌≡◌, ℕ, List, [], ◌++◌, Option}
use Rattle.std.specs.Io.KnownBytes.{Appends}
use Rattle.wire_codec.specs.DecodeError.{DecodeError}
use Rattle.wire_codec.specs.Charge.{charge}
use Rattle.wire_codec.specs.Ending.{by_input}
use Rattle.wire_codec.specs.Fault.{ListFault}
use Rattle.wire_codec.specs.Field.{Fields}
use Rattle.wire_codec.specs.Limits.{Limits, counted}
use Rattle.wire_codec.specs.Taken.{TakesFields}
use Rattle.wire_codec.specs.Text.{text_of}

-- what a run takes at most
abbrev pub run_limits : Limits
run_limits = counted 100 1000000

-- all of the input is taken as these records, within the limits
abbrev pub IsTaken : List ℕ → Fields → Type 0
IsTaken input fields = TakesFields (charge fields) run_limits fields input []

-- the input has a fault: it spells no records within the limits, and this says why
abbrev pub HasFault : List ℕ → DecodeError → Type 0
HasFault input e = ListFault run_limits by_input input e

-- the output is the shortest text of what the input spells
pub record IsShortest (input output : List ℕ) : Type 0 where
  pub fields : Fields
  pub taken : IsTaken input fields
  pub shortest : output ≡ text_of fields

-- known bytes grow by a front of these
pub record AppendsFront (old new : Option (List ℕ)) (bytes : List ℕ) : Type 0 where
  pub front : List ℕ
  pub rest : List ℕ
  pub parts : bytes ≡ front ++ rest
  pub appended : Appends old new front

-- a writer's known bytes grow by the shortest text of what the input spells
pub record OutputsShortest (input : List ℕ) (old new : Option (List ℕ)) : Type 0 where
  pub output : List ℕ
  pub shortest : IsShortest input output
  pub written : Appends old new output

-- a writer's known bytes grow by a front of the shortest text of what the input spells
pub record WritesFront (input : List ℕ) (old new : Option (List ℕ)) : Type 0 where
  pub output : List ℕ
  pub shortest : IsShortest input output
  pub written : AppendsFront old new output
