use Rattle.wire_well_known_json.proofs.StructTexts.{values_are_read_back}
use Rattle.wire_well_known_json.proofs.laws.values_are_read_back.Goals as goal

pub returns : goal.returns
returns c = values_are_read_back
