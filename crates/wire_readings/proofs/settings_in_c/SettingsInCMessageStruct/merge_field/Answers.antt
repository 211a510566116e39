use Rattle.std.proofs.Common.{refl, rules, sym, ◌∙◌}
use Rattle.wire_codec.specs.TagView.{tag_number}
use Rattle.wire_fields.specs.Arms.{arm_ok, neither, to_rest, unlike}
use Rattle.wire_readings.specs.Settings.{settings-address-kind, settings-count-kind}
use Rattle.wire_readings.specs.Settings.{settings-each_seconds-kind, settings-factor-kind}
use Rattle.wire_readings.specs.Settings.{settings-gain-kind, settings-high-kind}
use Rattle.wire_readings.specs.Settings.{settings-is_loud-kind, settings-is_on-kind}
use Rattle.wire_readings.specs.Settings.{settings-key-kind, settings-known, settings-label-kind}
use Rattle.wire_readings.specs.Settings.{settings-least-kind, settings-limit-kind}
use Rattle.wire_readings.specs.Settings.{settings-low-kind, settings-mask-kind}
use Rattle.wire_readings.specs.Settings.{settings-register-kind, settings-serial-kind}
use Rattle.wire_readings.specs.Settings.{settings-shift-kind, settings-since-kind}
use Rattle.wire_readings.specs.Settings.{settings-token-kind, settings-worst-kind}
use Rattle.wire_readings.specs.SettingsInC.{settings-struct}
use Rattle.wire_structs.proofs.Arms.{arm_refused, rest_refused}
use Rattle.wire_structs.specs.Passed.{passes}
use Rattle.wire_readings.proofs.settings_in_c.SettingsInCMessageStruct.merge_field.Goals as goal

pub returns-in-1-clause-ok : goal.returns-in-1-clause-ok
returns-in-1-clause-ok c =
    arm_ok settings-struct.takes settings-least-kind.kind.takes 1 _
    (sym c.field_number.ensures.number ∙ c.in-1.is) _ _ _ _
    (λ charge p h. (((((((h, refl), refl), refl), refl), refl), refl), refl)) _ _ _ _ _
    c.merge_value.result (c.merge_value.ensures.ok _)

pub returns-in-1-clause-err : goal.returns-in-1-clause-err
returns-in-1-clause-err c =
    arm_refused settings-struct.takes settings-least-kind.kind.takes 1 _
    (sym c.field_number.ensures.number ∙ c.in-1.is) _ _
    (λ charge z p h. (z.0.0.0.0.0.0.0, h.0.0.0.0.0.0.0)) _ _ _
    c.merge_value.result (c.merge_value.ensures.err _)

pub returns-in-2-clause-ok : goal.returns-in-2-clause-ok
returns-in-2-clause-ok c =
    arm_ok settings-struct.takes settings-since-kind.kind.takes 2 _
    (sym c.field_number.ensures.number ∙ c.in-2.is) _ _ _ _
    (λ charge p h. (((((((h, refl), refl), refl), refl), refl), refl), refl)) _ _ _ _ _
    (c.merge_value-in-2).result ((c.merge_value-in-2).ensures.ok _)

pub returns-in-2-clause-err : goal.returns-in-2-clause-err
returns-in-2-clause-err c =
    arm_refused settings-struct.takes settings-since-kind.kind.takes 2 _
    (sym c.field_number.ensures.number ∙ c.in-2.is) _ _
    (λ charge z p h. (z.0.0.0.0.0.0.1, h.0.0.0.0.0.0.0)) _ _ _
    (c.merge_value-in-2).result ((c.merge_value-in-2).ensures.err _)

pub returns-in-3-clause-ok : goal.returns-in-3-clause-ok
returns-in-3-clause-ok c =
    arm_ok settings-struct.takes settings-each_seconds-kind.kind.takes 3 _
    (sym c.field_number.ensures.number ∙ c.in-3.is) _ _ _ _
    (λ charge p h. (((((((h, refl), refl), refl), refl), refl), refl), refl)) _ _ _ _ _
    (c.merge_value-in-3).result ((c.merge_value-in-3).ensures.ok _)

pub returns-in-3-clause-err : goal.returns-in-3-clause-err
returns-in-3-clause-err c =
    arm_refused settings-struct.takes settings-each_seconds-kind.kind.takes 3 _
    (sym c.field_number.ensures.number ∙ c.in-3.is) _ _
    (λ charge z p h. (z.0.0.0.0.0.1.0, h.0.0.0.0.0.0.0)) _ _ _
    (c.merge_value-in-3).result ((c.merge_value-in-3).ensures.err _)

pub returns-in-4-clause-ok : goal.returns-in-4-clause-ok
returns-in-4-clause-ok c =
    arm_ok settings-struct.takes settings-serial-kind.kind.takes 4 _
    (sym c.field_number.ensures.number ∙ c.in-4.is) _ _ _ _
    (λ charge p h. (((((((h, refl), refl), refl), refl), refl), refl), refl)) _ _ _ _ _
    (c.merge_value-in-4).result ((c.merge_value-in-4).ensures.ok _)

pub returns-in-4-clause-err : goal.returns-in-4-clause-err
returns-in-4-clause-err c =
    arm_refused settings-struct.takes settings-serial-kind.kind.takes 4 _
    (sym c.field_number.ensures.number ∙ c.in-4.is) _ _
    (λ charge z p h. (z.0.0.0.0.0.1.1, h.0.0.0.0.0.0.0)) _ _ _
    (c.merge_value-in-4).result ((c.merge_value-in-4).ensures.err _)

pub returns-in-5-clause-ok : goal.returns-in-5-clause-ok
returns-in-5-clause-ok c =
    arm_ok settings-struct.takes settings-shift-kind.kind.takes 5 _
    (sym c.field_number.ensures.number ∙ c.in-5.is) _ _ _ _
    (λ charge p h. (((((((h, refl), refl), refl), refl), refl), refl), refl)) _ _ _ _ _
    (c.merge_value-in-5).result ((c.merge_value-in-5).ensures.ok _)

pub returns-in-5-clause-err : goal.returns-in-5-clause-err
returns-in-5-clause-err c =
    arm_refused settings-struct.takes settings-shift-kind.kind.takes 5 _
    (sym c.field_number.ensures.number ∙ c.in-5.is) _ _
    (λ charge z p h. (z.0.0.0.0.1.0.0, h.0.0.0.0.0.0.0)) _ _ _
    (c.merge_value-in-5).result ((c.merge_value-in-5).ensures.err _)

pub returns-in-6-clause-ok : goal.returns-in-6-clause-ok
returns-in-6-clause-ok c =
    arm_ok settings-struct.takes settings-address-kind.kind.takes 6 _
    (sym c.field_number.ensures.number ∙ c.in-6.is) _ _ _ _
    (λ charge p h. (((((((h, refl), refl), refl), refl), refl), refl), refl)) _ _ _ _ _
    (c.merge_value-in-6).result ((c.merge_value-in-6).ensures.ok _)

pub returns-in-6-clause-err : goal.returns-in-6-clause-err
returns-in-6-clause-err c =
    arm_refused settings-struct.takes settings-address-kind.kind.takes 6 _
    (sym c.field_number.ensures.number ∙ c.in-6.is) _ _
    (λ charge z p h. (z.0.0.0.0.1.0.1, h.0.0.0.0.0.0.0)) _ _ _
    (c.merge_value-in-6).result ((c.merge_value-in-6).ensures.err _)

pub returns-in-7-clause-ok : goal.returns-in-7-clause-ok
returns-in-7-clause-ok c =
    arm_ok settings-struct.takes settings-key-kind.kind.takes 7 _
    (sym c.field_number.ensures.number ∙ c.in-7.is) _ _ _ _
    (λ charge p h. (((((((h, refl), refl), refl), refl), refl), refl), refl)) _ _ _ _ _
    (c.merge_value-in-7).result ((c.merge_value-in-7).ensures.ok _)

pub returns-in-7-clause-err : goal.returns-in-7-clause-err
returns-in-7-clause-err c =
    arm_refused settings-struct.takes settings-key-kind.kind.takes 7 _
    (sym c.field_number.ensures.number ∙ c.in-7.is) _ _
    (λ charge z p h. (z.0.0.0.0.1.1.0, h.0.0.0.0.0.0.0)) _ _ _
    (c.merge_value-in-7).result ((c.merge_value-in-7).ensures.err _)

pub returns-in-8-clause-ok : goal.returns-in-8-clause-ok
returns-in-8-clause-ok c =
    arm_ok settings-struct.takes settings-low-kind.kind.takes 8 _
    (sym c.field_number.ensures.number ∙ c.in-8.is) _ _ _ _
    (λ charge p h. (((((((h, refl), refl), refl), refl), refl), refl), refl)) _ _ _ _ _
    (c.merge_value-in-8).result ((c.merge_value-in-8).ensures.ok _)

pub returns-in-8-clause-err : goal.returns-in-8-clause-err
returns-in-8-clause-err c =
    arm_refused settings-struct.takes settings-low-kind.kind.takes 8 _
    (sym c.field_number.ensures.number ∙ c.in-8.is) _ _
    (λ charge z p h. (z.0.0.0.0.1.1.1, h.0.0.0.0.0.0.0)) _ _ _
    (c.merge_value-in-8).result ((c.merge_value-in-8).ensures.err _)

pub returns-in-9-clause-ok : goal.returns-in-9-clause-ok
returns-in-9-clause-ok c =
    arm_ok settings-struct.takes settings-high-kind.kind.takes 9 _
    (sym c.field_number.ensures.number ∙ c.in-9.is) _ _ _ _
    (λ charge p h. (((((((h, refl), refl), refl), refl), refl), refl), refl)) _ _ _ _ _
    (c.merge_value-in-9).result ((c.merge_value-in-9).ensures.ok _)

pub returns-in-9-clause-err : goal.returns-in-9-clause-err
returns-in-9-clause-err c =
    arm_refused settings-struct.takes settings-high-kind.kind.takes 9 _
    (sym c.field_number.ensures.number ∙ c.in-9.is) _ _
    (λ charge z p h. (z.0.0.0.1.0.0.0, h.0.0.0.0.0.0.0)) _ _ _
    (c.merge_value-in-9).result ((c.merge_value-in-9).ensures.err _)

pub returns-in-10-clause-ok : goal.returns-in-10-clause-ok
returns-in-10-clause-ok c =
    arm_ok settings-struct.takes settings-factor-kind.kind.takes 10 _
    (sym c.field_number.ensures.number ∙ c.in-10.is) _ _ _ _
    (λ charge p h. (((((((h, refl), refl), refl), refl), refl), refl), refl)) _ _ _ _ _
    (c.merge_value-in-10).result ((c.merge_value-in-10).ensures.ok _)

pub returns-in-10-clause-err : goal.returns-in-10-clause-err
returns-in-10-clause-err c =
    arm_refused settings-struct.takes settings-factor-kind.kind.takes 10 _
    (sym c.field_number.ensures.number ∙ c.in-10.is) _ _
    (λ charge z p h. (z.0.0.0.1.0.0.1, h.0.0.0.0.0.0.0)) _ _ _
    (c.merge_value-in-10).result ((c.merge_value-in-10).ensures.err _)

pub returns-in-11-clause-ok : goal.returns-in-11-clause-ok
returns-in-11-clause-ok c =
    arm_ok settings-struct.takes settings-is_on-kind.kind.takes 11 _
    (sym c.field_number.ensures.number ∙ c.in-11.is) _ _ _ _
    (λ charge p h. (((((((h, refl), refl), refl), refl), refl), refl), refl)) _ _ _ _ _
    (c.merge_value-in-11).result ((c.merge_value-in-11).ensures.ok _)

pub returns-in-11-clause-err : goal.returns-in-11-clause-err
returns-in-11-clause-err c =
    arm_refused settings-struct.takes settings-is_on-kind.kind.takes 11 _
    (sym c.field_number.ensures.number ∙ c.in-11.is) _ _
    (λ charge z p h. (z.0.0.0.1.0.1.0, h.0.0.0.0.0.0.0)) _ _ _
    (c.merge_value-in-11).result ((c.merge_value-in-11).ensures.err _)

pub returns-in-12-clause-ok : goal.returns-in-12-clause-ok
returns-in-12-clause-ok c =
    arm_ok settings-struct.takes settings-register-kind.kind.takes 12 _
    (sym c.field_number.ensures.number ∙ c.in-12.is) _ _ _ _
    (λ charge p h. (((((((h, refl), refl), refl), refl), refl), refl), refl)) _ _ _ _ _
    (c.merge_value-in-12).result ((c.merge_value-in-12).ensures.ok _)

pub returns-in-12-clause-err : goal.returns-in-12-clause-err
returns-in-12-clause-err c =
    arm_refused settings-struct.takes settings-register-kind.kind.takes 12 _
    (sym c.field_number.ensures.number ∙ c.in-12.is) _ _
    (λ charge z p h. (z.0.0.0.1.0.1.1, h.0.0.0.0.0.0.0)) _ _ _
    (c.merge_value-in-12).result ((c.merge_value-in-12).ensures.err _)

pub returns-in-13-clause-ok : goal.returns-in-13-clause-ok
returns-in-13-clause-ok c =
    arm_ok settings-struct.takes settings-label-kind.kind.takes 13 _
    (sym c.field_number.ensures.number ∙ c.in-13.is) _ _ _ _
    (λ charge p h. (((((((h, refl), refl), refl), refl), refl), refl), refl)) _ _ _ _ _
    c.merge_optional.result (c.merge_optional.ensures.ok _)

pub returns-in-13-clause-err : goal.returns-in-13-clause-err
returns-in-13-clause-err c =
    arm_refused settings-struct.takes settings-label-kind.kind.takes 13 _
    (sym c.field_number.ensures.number ∙ c.in-13.is) _ _
    (λ charge z p h. (z.0.0.0.1.1.0.0, h.0.0.0.0.0.0.0)) _ _ _
    c.merge_optional.result (c.merge_optional.ensures.err _)

pub returns-in-14-clause-ok : goal.returns-in-14-clause-ok
returns-in-14-clause-ok c =
    arm_ok settings-struct.takes settings-token-kind.kind.takes 14 _
    (sym c.field_number.ensures.number ∙ c.in-14.is) _ _ _ _
    (λ charge p h. (((((((h, refl), refl), refl), refl), refl), refl), refl)) _ _ _ _ _
    (c.merge_optional-in-14).result ((c.merge_optional-in-14).ensures.ok _)

pub returns-in-14-clause-err : goal.returns-in-14-clause-err
returns-in-14-clause-err c =
    arm_refused settings-struct.takes settings-token-kind.kind.takes 14 _
    (sym c.field_number.ensures.number ∙ c.in-14.is) _ _
    (λ charge z p h. (z.0.0.0.1.1.0.1, h.0.0.0.0.0.0.0)) _ _ _
    (c.merge_optional-in-14).result ((c.merge_optional-in-14).ensures.err _)

pub returns-in-15-clause-ok : goal.returns-in-15-clause-ok
returns-in-15-clause-ok c =
    arm_ok settings-struct.takes settings-limit-kind.kind.takes 15 _
    (sym c.field_number.ensures.number ∙ c.in-15.is) _ _ _ _
    (λ charge p h. (((((((h, refl), refl), refl), refl), refl), refl), refl)) _ _ _ _ _
    (c.merge_optional-in-15).result ((c.merge_optional-in-15).ensures.ok _)

pub returns-in-15-clause-err : goal.returns-in-15-clause-err
returns-in-15-clause-err c =
    arm_refused settings-struct.takes settings-limit-kind.kind.takes 15 _
    (sym c.field_number.ensures.number ∙ c.in-15.is) _ _
    (λ charge z p h. (z.0.0.0.1.1.1.0, h.0.0.0.0.0.0.0)) _ _ _
    (c.merge_optional-in-15).result ((c.merge_optional-in-15).ensures.err _)

pub returns-in-16-clause-ok : goal.returns-in-16-clause-ok
returns-in-16-clause-ok c =
    arm_ok settings-struct.takes settings-gain-kind.kind.takes 16 _
    (sym c.field_number.ensures.number ∙ c.in-16.is) _ _ _ _
    (λ charge p h. (((((((h, refl), refl), refl), refl), refl), refl), refl)) _ _ _ _ _
    (c.merge_optional-in-16).result ((c.merge_optional-in-16).ensures.ok _)

pub returns-in-16-clause-err : goal.returns-in-16-clause-err
returns-in-16-clause-err c =
    arm_refused settings-struct.takes settings-gain-kind.kind.takes 16 _
    (sym c.field_number.ensures.number ∙ c.in-16.is) _ _
    (λ charge z p h. (z.0.0.0.1.1.1.1, h.0.0.0.0.0.0.0)) _ _ _
    (c.merge_optional-in-16).result ((c.merge_optional-in-16).ensures.err _)

pub returns-in-17-clause-ok : goal.returns-in-17-clause-ok
returns-in-17-clause-ok c =
    arm_ok settings-struct.takes settings-is_loud-kind.kind.takes 17 _
    (sym c.field_number.ensures.number ∙ c.in-17.is) _ _ _ _
    (λ charge p h. ((((h, refl), refl), refl), refl)) _ _ _ _ _
    (c.merge_optional-in-17).result ((c.merge_optional-in-17).ensures.ok _)

pub returns-in-17-clause-err : goal.returns-in-17-clause-err
returns-in-17-clause-err c =
    arm_refused settings-struct.takes settings-is_loud-kind.kind.takes 17 _
    (sym c.field_number.ensures.number ∙ c.in-17.is) _ _
    (λ charge z p h. (z.0.0.1.0, h.0.0.0.0)) _ _ _
    (c.merge_optional-in-17).result ((c.merge_optional-in-17).ensures.err _)

pub returns-in-18-clause-ok : goal.returns-in-18-clause-ok
returns-in-18-clause-ok c =
    arm_ok settings-struct.takes settings-worst-kind.kind.takes 18 _
    (sym c.field_number.ensures.number ∙ c.in-18.is) _ _ _ _
    (λ charge p h. ((((h, refl), refl), refl), refl)) _ _ _ _ _
    (c.merge_optional-in-18).result ((c.merge_optional-in-18).ensures.ok _)

pub returns-in-18-clause-err : goal.returns-in-18-clause-err
returns-in-18-clause-err c =
    arm_refused settings-struct.takes settings-worst-kind.kind.takes 18 _
    (sym c.field_number.ensures.number ∙ c.in-18.is) _ _
    (λ charge z p h. (z.0.0.1.1, h.0.0.0.0)) _ _ _
    (c.merge_optional-in-18).result ((c.merge_optional-in-18).ensures.err _)

pub returns-in-20-clause-ok : goal.returns-in-20-clause-ok
returns-in-20-clause-ok c =
    arm_ok settings-struct.takes settings-mask-kind.kind.takes 20 _
    (sym c.field_number.ensures.number ∙ c.in-20.is) _ _ _ _
    (λ charge p h. (((h, refl), refl), refl)) _ _ _ _ _
    (c.merge_optional-in-20).result ((c.merge_optional-in-20).ensures.ok _)

pub returns-in-20-clause-err : goal.returns-in-20-clause-err
returns-in-20-clause-err c =
    arm_refused settings-struct.takes settings-mask-kind.kind.takes 20 _
    (sym c.field_number.ensures.number ∙ c.in-20.is) _ _
    (λ charge z p h. (z.0.1.0, h.0.0.0)) _ _ _
    (c.merge_optional-in-20).result ((c.merge_optional-in-20).ensures.err _)

pub returns-in-21-clause-ok : goal.returns-in-21-clause-ok
returns-in-21-clause-ok c =
    arm_ok settings-struct.takes settings-count-kind.kind.takes 21 _
    (sym c.field_number.ensures.number ∙ c.in-21.is) _ _ _ _
    (λ charge p h. (((h, refl), refl), refl)) _ _ _ _ _
    (c.merge_optional-in-21).result ((c.merge_optional-in-21).ensures.ok _)

pub returns-in-21-clause-err : goal.returns-in-21-clause-err
returns-in-21-clause-err c =
    arm_refused settings-struct.takes settings-count-kind.kind.takes 21 _
    (sym c.field_number.ensures.number ∙ c.in-21.is) _ _
    (λ charge z p h. (z.0.1.1, h.0.0.0)) _ _ _
    (c.merge_optional-in-21).result ((c.merge_optional-in-21).ensures.err _)

pub returns-in_default-clause-ok : goal.returns-in_default-clause-ok
returns-in_default-clause-ok c =
    let n = tag_number c.args.tag in
    arm_ok settings-struct.takes passes n n refl _ _ _ _
    (λ charge p h. to_rest settings-known.owns settings-known.takes passes n
    (λ p. neither _ _ (neither _ _
    (neither _ _ (neither _ _ (neither _ _ (neither _ _ (unlike n 1 (search rules))
    (unlike n 2 (search rules)))
    (neither _ _ (unlike n 3 (search rules))
    (unlike n 4 (search rules))))
    (neither _ _ (neither _ _ (unlike n 5 (search rules))
    (unlike n 6 (search rules)))
    (neither _ _ (unlike n 7 (search rules))
    (unlike n 8 (search rules)))))
    (neither _ _ (neither _ _ (neither _ _ (unlike n 9 (search rules))
    (unlike n 10 (search rules)))
    (neither _ _ (unlike n 11 (search rules))
    (unlike n 12 (search rules))))
    (neither _ _ (neither _ _ (unlike n 13 (search rules))
    (unlike n 14 (search rules)))
    (neither _ _ (unlike n 15 (search rules))
    (unlike n 16 (search rules))))))
    (neither _ _ (unlike n 17 (search rules))
    (unlike n 18 (search rules))))
    (neither _ _ (unlike n 20 (search rules))
    (unlike n 21 (search rules))))
    _ charge _ p h)
    _ _ _ _ _ c.pass_by.result c.pass_by.ensures.ok

pub returns-in_default-clause-err : goal.returns-in_default-clause-err
returns-in_default-clause-err c =
    let n = tag_number c.args.tag in
    rest_refused settings-known.owns settings-known.takes passes n
    (λ p. neither _ _ (neither _ _
    (neither _ _ (neither _ _ (neither _ _ (neither _ _ (unlike n 1 (search rules))
    (unlike n 2 (search rules)))
    (neither _ _ (unlike n 3 (search rules))
    (unlike n 4 (search rules))))
    (neither _ _ (neither _ _ (unlike n 5 (search rules))
    (unlike n 6 (search rules)))
    (neither _ _ (unlike n 7 (search rules))
    (unlike n 8 (search rules)))))
    (neither _ _ (neither _ _ (neither _ _ (unlike n 9 (search rules))
    (unlike n 10 (search rules)))
    (neither _ _ (unlike n 11 (search rules))
    (unlike n 12 (search rules))))
    (neither _ _ (neither _ _ (unlike n 13 (search rules))
    (unlike n 14 (search rules)))
    (neither _ _ (unlike n 15 (search rules))
    (unlike n 16 (search rules))))))
    (neither _ _ (unlike n 17 (search rules))
    (unlike n 18 (search rules))))
    (neither _ _ (unlike n 20 (search rules))
    (unlike n 21 (search rules))))
    _ _ _ _ c.pass_by.result c.pass_by.ensures.err
