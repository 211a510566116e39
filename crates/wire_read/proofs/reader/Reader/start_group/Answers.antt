use Rattle.std.proofs.Common.{◌≡◌, ◌-◌, length, rules, arith}
use Rattle.wire_base.specs.declared.tag.WireType.TheVariants.{StartGroup}
use Rattle.wire_base.specs.Limits.{HasRoom}
use Rattle.wire_read.specs.Budget.{budget}
use Rattle.wire_read.specs.PartFault.{PartFault}
use Rattle.wire_read.specs.Reading.{groups_of, levels_in}
use Rattle.wire_read.proofs.Moving.{full_here, slot}
use Rattle.wire_read.proofs.reader.Reader.start_group.Goals as goal

pub returns-in_default-clause-fault : goal.returns-in_default-clause-fault
returns-in_default-clause-fault c =
    let r = c.args.self.now in
    let full : ¬ HasRoom (budget r.unknown_fields) 1 = search rules in
    let is = c.full.ensures in
    rw (is.part, is.place, is.error)
    (full_here r _ _ c.args.number StartGroup c.requires (λ e. absurd cc) full)

pub returns-then-open_count-levels-clause-fault : goal.returns-then-open_count-levels-clause-fault
returns-then-open_count-levels-clause-fault c =
    let r = c.args.self.now in
    let room : HasRoom (budget r.unknown_fields) 1 = search rules in
    let none : levels_in r - length (groups_of r) ≡ 0 = search (rules, arith) in
    PartFault.no_level c.args.number _ c.requires (slot r room) none
