use Rattle.wire_jsonfields.proofs.Depths.{map_within}
use Rattle.wire_jsonfields.proofs.laws.maps_add_a_level.Goals as goal

pub returns : goal.returns
returns g c =
    λ levels. map_within g.V.JsonValue.tree levels g.K.JsonKey.name
