use Rattle.std.proofs.Common.{drop}
use Rattle.wire_json.specs.Json.{Members}
use Rattle.wire_jsonfields.specs.Maps.{entries_seen}
use Rattle.wire_jsonfields.specs.Objects.{ArePlaced}
use Rattle.wire_jsonfields.proofs.MapReads.{MapSofar}
use Rattle.wire_jsonfields.proofs.map.read_map_entries.Given as goal

abbrev pub invariant-loop-member : goal.invariant-loop-member
invariant-loop-member g l =
    (ms : Members) → ArePlaced l.text l.members ms
    → MapSofar g.K.JsonKey.order g.K.JsonKey.means g.V.JsonValue.means l.text
    (drop l.member-index l.members)
    (entries_seen g.K.JsonKey.view g.V.JsonValue.view l.map.entries) ms
