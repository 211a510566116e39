use Rattle.std.proofs.Common.{refl, rules, true}
use Rattle.wire_dump.proofs.ShownUnfit.{unfit_put}
use Rattle.wire_dump.proofs.output.Typed.put_unfit.Goals as goal

pub returns-clause-ok : goal.returns-clause-ok
returns-clause-ok c = λ before.
    let r = c.args.found.now in
    unfit_put c.args.self.now r.spot.depth r.spot.budget r.spot.level r.event.number r.spot.place
    r.field.now
    r.event.value r.text.now c.args.out.now.text.items c.put_item.new.out.items
    c.deref.result.now before (record { text = c.put_note.new.out; has_note = true })
    c.guessing-layout.result c.guessing-layout.ensures c.requires.is c.requires.never (search rules) c.in_ok-put_item.ensures c.in_ok-put_note.ensures refl
