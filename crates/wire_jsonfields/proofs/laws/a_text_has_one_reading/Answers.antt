use Rattle.wire_jsonfields.specs.ListsBack.{one_spelled}
use Rattle.wire_jsonfields.proofs.laws.a_text_has_one_reading.Goals as goal

pub returns : goal.returns
returns g c = one_spelled g.V.JsonValue.means g.V.JsonValue.one_value
