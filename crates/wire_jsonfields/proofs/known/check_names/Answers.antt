use Rattle.std.proofs.Common.{◌+◌, drop}
use Rattle.wire_jsonfields.specs.Names.{IsOneOf}
use Rattle.wire_jsonfields.specs.Firsts.{IsUnknown}
use Rattle.wire_jsonfields.proofs.Firsts.{found_at}
use Rattle.wire_jsonfields.proofs.known.check_names.Goals as goal

pub returns-then-not-is_known-clause-which : goal.returns-then-not-is_known-clause-which
returns-then-not-is_known-clause-which g c =
    let entries = c.args.members.now in
    let i = c.loop-member.member-index in
    let item = c.member-item.result in
    let first = found_at (IsUnknown (IsOneOf g.P.JsonPart.names)) entries i item c.loop-member-test.true
    c.member-item.is c.loop-member.invariant.known c.if-not-is_known.ensures in
    (item, drop (i + 1) entries, first, c.unknown.ensures)
