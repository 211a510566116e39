use Rattle.std.proofs.Common.{◌≡◌, ◌++◌, Some, refl, subst}
use Rattle.wire_base.specs.Field.{bytes}
use Rattle.wire_dump.specs.declared.layout.Margin.{Margin}
use Rattle.wire_dump.specs.declared.typed_line.FieldLine.{FieldLine}
use Rattle.wire_dump.specs.Places.{range_text}
use Rattle.wire_dump.specs.Shows.{ShowsRecord, string, string_value, value_line}
use Rattle.wire_dump.proofs.ShownPut.{one_line}
use Rattle.wire_dump.proofs.output.Typed.put_string.Goals as goal

pub returns-clause-fits : goal.returns-clause-fits
returns-clause-fits c =
    let t = c.args.self.now in
    let s = t.schema.now in
    let r = c.args.found.now in
    let old = c.args.out.now.text.items in
    let new = c.put_string.new.out.items in
    let text = string_value c.args.payload.now in
    let of_line = subst (λ (l : FieldLine). new ≡ old
    ++ (range_text l.margin.is_shown l.margin.start l.margin.end
    ++ value_line l.schema.now l.level l.field.now text)) c.line-line.ensures
    c.in_ok-put_string.ensures in
    let put = subst (λ (m : Margin). new ≡ old ++ (range_text m.is_shown m.start m.end
    ++ value_line s r.spot.level r.field.now text)) c.margin.ensures of_line in
    one_line t r.spot.place
    (ShowsRecord s r.spot.depth r.spot.budget r.spot.level (Some r.field.now) r.event.number
    (bytes c.args.payload.now) r.text.now) r.text.now
    (value_line s r.spot.level r.field.now text) old c.args.out.now.has_note
    (record { text = c.put_string.new.out; has_note = c.args.out.now.has_note })
    (string c.requires.is c.requires.kind (c.if-not-is_string_of.ensures.yes refl r.spot.depth) refl)
    put refl
