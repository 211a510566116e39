use Rattle.std.proofs.Common.{drop}
use Rattle.wire_jsonpath.proofs.Searching.{MembersSo, ahead}
use Rattle.wire_jsonpath.proofs.member.find_member.Given as goal

abbrev pub invariant-loop-next : goal.invariant-loop-next
invariant-loop-next l = MembersSo l.levels l.left l.text (drop l.at l.text) l.next

abbrev pub decreases-loop-next : goal.decreases-loop-next
decreases-loop-next l = ahead l.text l.next
