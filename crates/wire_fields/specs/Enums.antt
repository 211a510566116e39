-- Open enums as numbers of 32 bits.
use Rattle.std.specs.Prelude.{ℤ, Option}
use Rattle.wire_codec.specs.EnumValue.{EnumValue}
use Rattle.wire_codec.specs.Enumeration.{number_of, known_or}
use Rattle.wire_codec.specs.ValueMap.{ValueMap, int32}

-- the number of a value; the known value of a number, and else the number
abbrev pub open_enum : {E : Type 0} → (E → ℤ) → (ℤ → Option E) → ValueMap (EnumValue E)
open_enum number of_number = record {
  enc = λ v. int32.enc (number_of number v);
  dec = λ x. known_or (of_number (int32.dec x)) (int32.dec x);
}
