use Rattle.std.proofs.Common.{ℕ, List, drop}
use Rattle.wire_json.specs.Json.{Members}
use Rattle.wire_jsonfields.specs.Firsts.{IsUnknown}
use Rattle.wire_jsonfields.specs.Names.{IsOneOf}
use Rattle.wire_jsonfields.specs.Objects.{ArePlaced}
use Rattle.wire_jsonfields.proofs.Firsts.{NoneBefore}
use Rattle.wire_jsonfields.proofs.Knowing.{Checked}
use Rattle.wire_jsonfields.proofs.known.check_names.Given as goal

abbrev pub invariant-loop-member : goal.invariant-loop-member
invariant-loop-member g l = record {
  checked : (text : List ℕ) (ms : Members) → ArePlaced text l.members ms
      → Checked (IsOneOf g.P.JsonPart.names) text (drop l.member-index l.members) ms;
  known : NoneBefore (IsUnknown (IsOneOf g.P.JsonPart.names)) l.members (drop l.member-index l.members);
}
