use Rattle.std.proofs.Common.{ℕ, List, drop}
use Rattle.wire_json.specs.Json.{Members}
use Rattle.wire_jsonfields.specs.Objects.{ArePlaced, IsNameOf}
use Rattle.wire_jsonfields.proofs.Finding.{Sofar}
use Rattle.wire_well_known_json.proofs.nullable.find.Given as goal

abbrev pub invariant-loop-member : goal.invariant-loop-member
invariant-loop-member l =
    (text : List ℕ) (ms : Members) → ArePlaced text l.members ms
    → Sofar (IsNameOf l.name l.json_name) text (drop l.member-index l.members) l.found ms
