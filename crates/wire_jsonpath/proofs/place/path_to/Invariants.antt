use Rattle.std.proofs.Common.{List, ◌++◌, drop}
use Rattle.wire_json.specs.Bytes.{past_space}
use Rattle.wire_jsonpath.specs.Path.{TreeStep}
use Rattle.wire_jsonpath.specs.Places.{IsPathFrom}
use Rattle.wire_jsonpath.proofs.place.path_to.Given as goal

abbrev pub invariant-loop-inner : goal.invariant-loop-inner
invariant-loop-inner l =
    (tail : List TreeStep) → IsPathFrom l.inner l.left (drop l.place l.front) tail
    → IsPathFrom l.levels l.left (past_space l.front) (l.path ++ tail)

abbrev pub decreases-loop-inner : goal.decreases-loop-inner
decreases-loop-inner l = l.inner
