use Rattle.std.proofs.Common.{drop, map, ◌≡◌}
use Rattle.wire_required.specs.Missing.{each_from}
use Rattle.wire_required.proofs.requirement.missing_in_each.Given as goal

-- what the messages to come lack is what all of them lack
abbrev pub invariant-loop-index : goal.invariant-loop-index
invariant-loop-index g l =
    let missing = g.M.Required.missing in
    let seen = g.M.Required.seen in
    each_from missing 0 (map seen l.fn.messages)
    ≡ each_from missing l.index (map seen (drop l.index l.messages))
