-- The unknown fields that a value keeps, as decoding leaves them.
use Rattle.std.specs.Prelude.{ℕ}
use Rattle.wire_codec.specs.Field.{Fields, none, field}
use Rattle.wire_codec.specs.InRange.{AreFitting, AreNumbered}

-- the numbers of the records are such; those inside groups may be any
abbrev pub NumbersAre : (ℕ → Type 0) → Fields → Type 0
NumbersAre IsOther none = Unit {0}
NumbersAre IsOther (field n p rest) = IsOther n × NumbersAre IsOther rest

-- numbers and lengths are in range, and at their top the numbers are none that the type knows
pub record AreUnknown (IsOther : ℕ → Type 0) (unknown : Fields) : Type 0 where
  pub fitting : AreFitting unknown
  pub numbered : AreNumbered unknown
  pub others : NumbersAre IsOther unknown
