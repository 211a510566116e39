use Rattle.wire_well_known_json.proofs.StructTexts.{texts_are_one_value}
use Rattle.wire_well_known_json.proofs.laws.texts_are_one_value.Goals as goal

pub returns : goal.returns
returns c = texts_are_one_value
