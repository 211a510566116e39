use Rattle.wire_protojson.proofs.ReadBack.{bools_read_back, bytes_read_back, floats_read_back, int32_read_back, int64_read_back, strings_read_back, uint32_read_back, uint64_read_back}
use Rattle.wire_protojson.proofs.EnumValues.{enums_read_back}
use Rattle.wire_protojson.proofs.laws.scalars_are_read_back.Goals as goal

pub returns-clause-bools : goal.returns-clause-bools
returns-clause-bools c = bools_read_back

pub returns-clause-int32 : goal.returns-clause-int32
returns-clause-int32 c = int32_read_back

pub returns-clause-int64 : goal.returns-clause-int64
returns-clause-int64 c = int64_read_back

pub returns-clause-uint32 : goal.returns-clause-uint32
returns-clause-uint32 c = uint32_read_back

pub returns-clause-uint64 : goal.returns-clause-uint64
returns-clause-uint64 c = uint64_read_back

pub returns-clause-floats : goal.returns-clause-floats
returns-clause-floats c = floats_read_back

pub returns-clause-strings : goal.returns-clause-strings
returns-clause-strings c = strings_read_back

pub returns-clause-bytes : goal.returns-clause-bytes
returns-clause-bytes c = bytes_read_back

pub returns-clause-enums : goal.returns-clause-enums
returns-clause-enums c = enums_read_back
