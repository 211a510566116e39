use Rattle.std.proofs.Common.{◌≡◌, ◌++◌, drop}
use Rattle.wire_jsonfields.specs.Names.{IsOneOf}
use Rattle.wire_jsonfields.specs.Firsts.{HasValue}
use Rattle.wire_jsonfields.proofs.Firsts.{NoneBefore}
use Rattle.wire_jsonfields.proofs.oneof.first_value.Given as goal

abbrev pub invariant-loop-member : goal.invariant-loop-member
invariant-loop-member g l = record {
  index : l.behind ≡ l.member-index;
  none : NoneBefore (HasValue (IsOneOf (g.A.JsonChoice.names ++ g.B.JsonChoice.names)) l.text) l.members (drop l.member-index l.members);
}
