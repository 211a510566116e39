use Rattle.std.proofs.Common.{map, drop}
use Rattle.wire_jsonfields.proofs.ListPuts.{ListPut}
use Rattle.wire_jsonfields.proofs.list.write_elements.Given as goal

abbrev pub invariant-loop-held : goal.invariant-loop-held
invariant-loop-held g l =
    ListPut g.V.JsonValue.tree (map g.V.JsonValue.view l.list)
    (map g.V.JsonValue.view (drop l.held-index l.list)) l.fn.out.items l.out.items l.first
