use Rattle.wire_jsonfields.specs.Maps.{entries_seen}
use Rattle.wire_jsonfields.proofs.MapPuts.{MapPut}
use Rattle.wire_jsonfields.proofs.map.write_map.Given as goal

abbrev pub invariant-loop-key : goal.invariant-loop-key
invariant-loop-key g l =
    let seen = entries_seen g.K.JsonKey.view g.V.JsonValue.view in
    MapPut g.K.JsonKey.name g.V.JsonValue.tree (seen l.fn.map.entries) (seen l.key-iterator)
    l.fn.out.items l.out.items l.first
