use Rattle.std.proofs.Common.{refl, rules, sym, ◌∙◌}
use Rattle.wire_codec.specs.TagView.{tag_number}
use Rattle.wire_descriptor.specs.MessageOptions.{message_options-features-kind}
use Rattle.wire_descriptor.specs.MessageOptions.{message_options-known}
use Rattle.wire_descriptor.specs.MessageOptions.{message_options-map_entry-kind}
use Rattle.wire_descriptor.specs.MessageOptions.{message_options-shape}
use Rattle.wire_fields.specs.Arms.{arm_err, arm_ok, neither, rest_err, unlike}
use Rattle.wire_fields.specs.Shape.{keeps}
use Rattle.wire_descriptor.proofs.message_options.MessageOptionsMessageFields.merge_field.Goals as goal

pub returns-in-7-clause-err : goal.returns-in-7-clause-err
returns-in-7-clause-err g c =
    arm_err message_options-shape.takes message_options-map_entry-kind.kind.takes 7 _
    (sym c.fields-field_number.ensures.number ∙ c.in-7.is) _ _
    (λ charge z p h. (z.0.0, h.0.0)) _ _ _
    c.fields-merge.result c.fields-merge.ensures.err

pub returns-in-7-clause-ok : goal.returns-in-7-clause-ok
returns-in-7-clause-ok g c =
    arm_ok message_options-shape.takes message_options-map_entry-kind.kind.takes 7 _
    (sym c.fields-field_number.ensures.number ∙ c.in-7.is) _ _ _ _
    (λ charge p h. ((h, refl), refl)) _ _ _ _ _
    c.fields-merge.result c.fields-merge.ensures.ok

pub returns-in-12-clause-err : goal.returns-in-12-clause-err
returns-in-12-clause-err g c =
    arm_err message_options-shape.takes message_options-features-kind.kind.takes 12 _
    (sym c.fields-field_number.ensures.number ∙ c.in-12.is) _ _
    (λ charge z p h. (z.0.1, h.0.0)) _ _ _
    (c.fields-merge-in-12).result (c.fields-merge-in-12).ensures.err

pub returns-in-12-clause-ok : goal.returns-in-12-clause-ok
returns-in-12-clause-ok g c =
    arm_ok message_options-shape.takes message_options-features-kind.kind.takes 12 _
    (sym c.fields-field_number.ensures.number ∙ c.in-12.is) _ _ _ _
    (λ charge p h. ((h, refl), refl)) _ _ _ _ _
    (c.fields-merge-in-12).result (c.fields-merge-in-12).ensures.ok

pub returns-in_default-clause-err : goal.returns-in_default-clause-err
returns-in_default-clause-err g c =
    let n = tag_number c.args.tag in
    rest_err message_options-known.owns message_options-known.takes keeps _
    (λ p. neither _ _ (unlike n 7 (search rules))
    (unlike n 12 (search rules)))
    _ _ _ _ c.fields-keep.result c.fields-keep.ensures.err
