use Rattle.wire_protojson.specs.DecidedScalars.{bools_decided, bytes_decided, floats_decided, signed_decided, strings_decided, unsigned_decided}
use Rattle.wire_protojson.proofs.EnumValues.{enums_decided}
use Rattle.wire_protojson.proofs.laws.scalars_are_decided.Goals as goal

pub returns-clause-bools : goal.returns-clause-bools
returns-clause-bools c = bools_decided

pub returns-clause-signed : goal.returns-clause-signed
returns-clause-signed c = signed_decided

pub returns-clause-unsigned : goal.returns-clause-unsigned
returns-clause-unsigned c = unsigned_decided

pub returns-clause-floats : goal.returns-clause-floats
returns-clause-floats c = floats_decided

pub returns-clause-strings : goal.returns-clause-strings
returns-clause-strings c = strings_decided

pub returns-clause-bytes : goal.returns-clause-bytes
returns-clause-bytes c = bytes_decided

pub returns-clause-enums : goal.returns-clause-enums
returns-clause-enums c = enums_decided
