use Rattle.wire_jsonfields.proofs.Depths.{list_within}
use Rattle.wire_jsonfields.proofs.laws.lists_add_a_level.Goals as goal

pub returns : goal.returns
returns g c = λ levels. list_within g.V.JsonValue.tree levels
