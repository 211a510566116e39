use Rattle.std.proofs.Common.{◌≡◌, take}
use Rattle.std.specs.Prelude.{Some, reverse}
use Rattle.wire_dynamic.specs.Walks.{innermost}
use Rattle.wire_dynamic.proofs.schema.Schema.innermost.Given as goal

abbrev pub invariant-loop-number : goal.invariant-loop-number
invariant-loop-number l =
    innermost l.self l.fn.root (reverse (take l.number-index l.groups)) ≡ Some l.place
