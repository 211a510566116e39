use Rattle.std.proofs.Common.{drop}
use Rattle.wire_jsonpath.proofs.Searching.{ElementsSo, ahead}
use Rattle.wire_jsonpath.proofs.element.find_element.Given as goal

abbrev pub invariant-loop-next : goal.invariant-loop-next
invariant-loop-next l = ElementsSo l.levels l.left l.text (drop l.at l.text) l.index l.next

abbrev pub decreases-loop-next : goal.decreases-loop-next
decreases-loop-next l = ahead l.text l.next
