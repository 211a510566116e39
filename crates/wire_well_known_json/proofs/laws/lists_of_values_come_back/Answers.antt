use Rattle.wire_well_known_json.proofs.NullableReads.{lists_of_values_come_back}
use Rattle.wire_well_known_json.proofs.laws.lists_of_values_come_back.Goals as goal

pub returns : goal.returns
returns c = lists_of_values_come_back
