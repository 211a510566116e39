use Rattle.wire_jsonfields.specs.Ascending.{map_sorted}
use Rattle.wire_jsonfields.proofs.laws.maps_ascend.Goals as goal

pub returns : goal.returns
returns g c =
    map_sorted g.K.JsonKey.order g.K.JsonKey.total g.K.JsonKey.means g.V.JsonValue.means
