-- Wrappers as what they hold.
use Rattle.std.specs.Float.{Float, binary32, binary64}
use Rattle.std.specs.Prelude.{Bool, List, from_bits, string_bytes, ℕ, ℤ}
use Rattle.wire_well_known.specs.declared.bool_value.BoolValue.{BoolValue}
use Rattle.wire_well_known.specs.declared.bytes_value.BytesValue.{BytesValue}
use Rattle.wire_well_known.specs.declared.double_value.DoubleValue.{DoubleValue}
use Rattle.wire_well_known.specs.declared.float_value.FloatValue.{FloatValue}
use Rattle.wire_well_known.specs.declared.int32_value.Int32Value.{Int32Value}
use Rattle.wire_well_known.specs.declared.int64_value.Int64Value.{Int64Value}
use Rattle.wire_well_known.specs.declared.string_value.StringValue.{StringValue}
use Rattle.wire_well_known.specs.declared.uint32_value.UInt32Value.{UInt32Value}
use Rattle.wire_well_known.specs.declared.uint64_value.UInt64Value.{UInt64Value}

abbrev pub bool_value-json : BoolValue → Bool
bool_value-json m = m.value

abbrev pub bytes_value-json : BytesValue → List ℕ
bytes_value-json m = m.value.items

abbrev pub double_value-json : DoubleValue → Float
double_value-json m = from_bits binary64 m.value.bits

abbrev pub float_value-json : FloatValue → Float
float_value-json m = from_bits binary32 m.value.bits

abbrev pub int32_value-json : Int32Value → ℤ
int32_value-json m = m.value

abbrev pub int64_value-json : Int64Value → ℤ
int64_value-json m = m.value

abbrev pub string_value-json : StringValue → List ℕ
string_value-json m = string_bytes m.value

abbrev pub uint32_value-json : UInt32Value → ℕ
uint32_value-json m = m.value

abbrev pub uint64_value-json : UInt64Value → ℕ
uint64_value-json m = m.value
