use Rattle.std.proofs.Common.{refl, rules, sym, ◌∙◌}
use Rattle.wire_codec.specs.TagView.{tag_number}
use Rattle.wire_fields.specs.Arms.{arm_err, arm_ok, rest_err, unlike}
use Rattle.wire_fields.specs.Shape.{keeps}
use Rattle.wire_readings.specs.Book.{book-known, book-logs-kind, book-shape}
use Rattle.wire_readings.proofs.book.BookMessageFields.merge_field.Goals as goal

pub returns-in-1-clause-err : goal.returns-in-1-clause-err
returns-in-1-clause-err g c =
    arm_err book-shape.takes book-logs-kind.kind.takes 1 _
    (sym c.fields-field_number.ensures.number ∙ c.in-1.is) _ _
    (λ charge z p h. (z.0, h.0)) _ _ _
    c.fields-merge.result c.fields-merge.ensures.err

pub returns-in-1-clause-ok : goal.returns-in-1-clause-ok
returns-in-1-clause-ok g c =
    arm_ok book-shape.takes book-logs-kind.kind.takes 1 _
    (sym c.fields-field_number.ensures.number ∙ c.in-1.is) _ _ _ _
    (λ charge p h. (h, refl)) _ _ _ _ _
    c.fields-merge.result c.fields-merge.ensures.ok

pub returns-in_default-clause-err : goal.returns-in_default-clause-err
returns-in_default-clause-err g c =
    let n = tag_number c.args.tag in
    rest_err book-known.owns book-known.takes keeps _
    (λ p. unlike n 1 (search rules))
    _ _ _ _ c.fields-keep.result c.fields-keep.ensures.err
