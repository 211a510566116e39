-- Floats by their bits.
use Rattle.wire_codec.specs.ValueMap.{ValueMap}
use Rattle.wire_fields.specs.declared.floats.FloatBits.{FloatBits}
use Rattle.wire_fields.specs.declared.floats.DoubleBits.{DoubleBits}

abbrev pub float : ValueMap FloatBits
float = record { enc = λ v. v.bits; dec = λ x. record { bits = x } }

abbrev pub double : ValueMap DoubleBits
double = record { enc = λ v. v.bits; dec = λ x. record { bits = x } }
