use Rattle.wire_jsonfields.specs.ListsBack.{list_back}
use Rattle.wire_jsonfields.proofs.laws.lists_come_back.Goals as goal

pub returns : goal.returns
returns g c = list_back g.V.JsonValue.means g.V.JsonValue.tree
