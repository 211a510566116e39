use Rattle.std.proofs.Common.{◌≡◌, ◌≢◌, ◌∷◌, length, drop, rules}
use Rattle.wire_base.specs.Limits.{HasRoom}
use Rattle.wire_read.specs.Budget.{budget}
use Rattle.wire_read.specs.Reading.{groups_of, limits_in}
use Rattle.wire_read.proofs.Moving.{full_at_end, outside_at_end, other_at_end, slot}
use Rattle.wire_read.proofs.reader.Reader.end_group.Goals as goal

pub returns-then-is_none-clause-fault : goal.returns-then-is_none-clause-fault
returns-then-is_none-clause-fault c =
    let r = c.args.self.now in
    let empty : length (groups_of r) ≡ 0 = search rules in
    let full : ¬ HasRoom (budget r.unknown_fields) 1 = search rules in
    let is = c.full.ensures in
    rw (is.part, is.place, is.error)
    (full_at_end (limits_in r) (groups_of r) _ _ _ c.requires empty full)

pub returns-then-open_count-eq0-clause-fault : goal.returns-then-open_count-eq0-clause-fault
returns-then-open_count-eq0-clause-fault c =
    let r = c.args.self.now in
    let empty : length (groups_of r) ≡ 0 = search rules in
    let room : HasRoom (budget r.unknown_fields) 1 = search rules in
    outside_at_end (limits_in r) (groups_of r) _ _ _ c.requires empty (slot r room)

pub returns-then-innermost-number-clause-fault : goal.returns-then-innermost-number-clause-fault
returns-then-innermost-number-clause-fault c =
    let r = c.args.self.now in
    let is : groups_of r ≡ c.innermost.result ∷ drop 1 (groups_of r) = search rules in
    let other : c.innermost.result ≢ c.args.number = search rules in
    other_at_end (limits_in r) (groups_of r) (drop 1 (groups_of r)) c.innermost.result c.args.number _ _
    is other c.requires
