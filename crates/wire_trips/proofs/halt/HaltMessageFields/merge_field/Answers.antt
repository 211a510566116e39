use Rattle.std.proofs.Common.{refl, rules, sym, ◌∙◌}
use Rattle.wire_codec.specs.TagView.{tag_number}
use Rattle.wire_fields.specs.Arms.{arm_err, arm_ok, neither, rest_err, unlike}
use Rattle.wire_fields.specs.Shape.{keeps}
use Rattle.wire_trips.specs.Halt.{halt-known, halt-place_name-kind, halt-shape}
use Rattle.wire_trips.specs.Halt.{halt-waited_seconds-kind}
use Rattle.wire_trips.proofs.halt.HaltMessageFields.merge_field.Goals as goal

pub returns-in-1-clause-err : goal.returns-in-1-clause-err
returns-in-1-clause-err g c =
    arm_err halt-shape.takes halt-place_name-kind.kind.takes 1 _
    (sym c.fields-field_number.ensures.number ∙ c.in-1.is) _ _
    (λ charge z p h. (z.0.0, h.0.0)) _ _ _
    c.fields-merge.result c.fields-merge.ensures.err

pub returns-in-1-clause-ok : goal.returns-in-1-clause-ok
returns-in-1-clause-ok g c =
    arm_ok halt-shape.takes halt-place_name-kind.kind.takes 1 _
    (sym c.fields-field_number.ensures.number ∙ c.in-1.is) _ _ _ _
    (λ charge p h. ((h, refl), refl)) _ _ _ _ _
    c.fields-merge.result c.fields-merge.ensures.ok

pub returns-in-2-clause-err : goal.returns-in-2-clause-err
returns-in-2-clause-err g c =
    arm_err halt-shape.takes halt-waited_seconds-kind.kind.takes 2 _
    (sym c.fields-field_number.ensures.number ∙ c.in-2.is) _ _
    (λ charge z p h. (z.0.1, h.0.0)) _ _ _
    (c.fields-merge-in-2).result (c.fields-merge-in-2).ensures.err

pub returns-in-2-clause-ok : goal.returns-in-2-clause-ok
returns-in-2-clause-ok g c =
    arm_ok halt-shape.takes halt-waited_seconds-kind.kind.takes 2 _
    (sym c.fields-field_number.ensures.number ∙ c.in-2.is) _ _ _ _
    (λ charge p h. ((h, refl), refl)) _ _ _ _ _
    (c.fields-merge-in-2).result (c.fields-merge-in-2).ensures.ok

pub returns-in_default-clause-err : goal.returns-in_default-clause-err
returns-in_default-clause-err g c =
    let n = tag_number c.args.tag in
    rest_err halt-known.owns halt-known.takes keeps _
    (λ p. neither _ _ (unlike n 1 (search rules))
    (unlike n 2 (search rules)))
    _ _ _ _ c.fields-keep.result c.fields-keep.ensures.err
