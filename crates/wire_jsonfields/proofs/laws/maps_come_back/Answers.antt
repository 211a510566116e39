use Rattle.wire_jsonfields.specs.ListsBack.{map_back}
use Rattle.wire_jsonfields.proofs.laws.maps_come_back.Goals as goal

pub returns : goal.returns
returns g c =
    map_back g.K.JsonKey.order g.K.JsonKey.total g.K.JsonKey.means g.K.JsonKey.name
    g.V.JsonValue.means g.V.JsonValue.tree
