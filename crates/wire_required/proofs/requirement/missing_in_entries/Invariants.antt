use Rattle.std.proofs.Common.{◌≡◌}
use Rattle.wire_fields.specs.Maps.{viewed}
use Rattle.wire_required.specs.Missing.{entries_from}
use Rattle.wire_required.proofs.requirement.missing_in_entries.Given as goal

-- what the entries to come lack is what all of them lack
abbrev pub invariant-loop-key : goal.invariant-loop-key
invariant-loop-key g l =
    let from = entries_from g.K.PathKey.key g.M.Required.missing in
    let seen = viewed g.K.PathKey.seen g.M.Required.seen in
    from (seen l.fn.entries.entries) ≡ from (seen l.key-iterator)
