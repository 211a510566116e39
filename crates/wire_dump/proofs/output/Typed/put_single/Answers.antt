use Rattle.std.proofs.Common.{◌≡◌, Some, refl, sym, ap, ◌∙◌, rules}
use Rattle.wire_dump.specs.Numbers.{number_type}
use Rattle.wire_dump.specs.Shown.{event_payload}
use Rattle.wire_dump.specs.Shows.{ShowsRecord, number}
use Rattle.wire_dump.proofs.ShownPut.{one_line}
use Rattle.wire_dump.proofs.ShownRecord.{single_fits}
use Rattle.wire_dump.proofs.output.Typed.put_single.Goals as goal

pub returns-clause-fits : goal.returns-clause-fits
returns-clause-fits c =
    let t = c.args.self.now in
    let r = c.args.found.now in
    let p = event_payload r.event.value in
    let kind : number_type r.field.now.kind ≡ Some c.args.wire_type = search rules in
    let (line, is, put) = c.in_ok-put_number.ensures in
    one_line t r.spot.place
    (ShowsRecord t.schema.now r.spot.depth r.spot.budget r.spot.level (Some r.field.now)
    r.event.number p r.text.now) r.text.now line c.args.out.now.text.items c.args.out.now.has_note
    (record { text = c.put_number.new.out; has_note = c.args.out.now.has_note })
    (number line c.requires.is.spelled
    (single_fits r.spot.depth c.args.number r.field.now p c.requires.number
    (kind ∙ ap Some (sym c.requires.type_is))) c.requires.number is refl)
    put refl
