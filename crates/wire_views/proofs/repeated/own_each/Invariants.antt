use Rattle.std.proofs.Common.{◌≡◌, map, take}
use Rattle.wire_views.proofs.repeated.own_each.Given as goal

abbrev pub invariant-loop-value : goal.invariant-loop-value
invariant-loop-value g l =
    map g.S.ViewScalar.owned l.copies.items ≡ map g.S.ViewScalar.view (take l.value-index l.values)
