use Rattle.wire_well_known_json.proofs.NullableReads.{value_fields_are_parts}
use Rattle.wire_well_known_json.proofs.laws.value_fields_are_parts.Goals as goal

pub returns : goal.returns
returns c = value_fields_are_parts
