use Rattle.std.proofs.Common.{◌≡◌, refl, sym, rules}
use Rattle.std.proofs.lemmas.Result.{err_from_is_err_and}
use Rattle.wire_base.specs.Limits.{HasRoom}
use Rattle.wire_base.specs.TagView.{tag_number, tag_type}
use Rattle.wire_read.specs.Budget.{budget, Spends}
use Rattle.wire_read.specs.PartFault.{PartFault}
use Rattle.wire_read.specs.Reading.{limits_in}
use Rattle.wire_read.proofs.Moving.{full_here, moved_whole, slot}
use Rattle.wire_read.proofs.reader.Reader.record.Goals as goal

pub returns-in_default-clause-fault : goal.returns-in_default-clause-fault
returns-in_default-clause-fault c =
    let r = c.args.self.now in
    let full : ¬ HasRoom (budget r.unknown_fields) 1 = search rules in
    let is = c.full.ensures in
    rw (is.part, is.place, is.error)
    (full_here r _ _ _ (tag_type c.args.tag) c.requires.tag c.requires.end full)

pub returns-in_err-found-clause-fault : goal.returns-in_err-found-clause-fault
returns-in_err-found-clause-fault c =
    let p = err_from_is_err_and c.from_residual.result c.from_residual.ensures.1 in
    let r = c.args.self.now in
    let room : HasRoom (budget r.unknown_fields) 1 = search rules in
    rw (p.1, p.2) (PartFault.in_payload (tag_number c.args.tag) (tag_type c.args.tag) _ _ _
    c.requires.tag (slot r room) (c.in_err-found.ensures.fault (limits_in r) refl))

pub returns-clause-ok : goal.returns-clause-ok
returns-clause-ok c =
    let r = c.args.self.now in
    let tag = c.args.tag in
    let number : tag_number tag ≡ c.field_number.result = search rules in
    let spent : Spends 1 r.unknown_fields c.in-Some.unknown_fields = search rules in
    let new = record r {
      unknown_fields = c.in-Some.unknown_fields;
      unknown_bytes = c.in_ok-found.found.unknown_bytes;
    } in
    rw (sym number) (moved_whole r new (tag_number tag) (tag_type tag) _ _ _ c.requires.tag
    c.requires.start c.in_ok-found.ensures.ok spent refl refl refl)
