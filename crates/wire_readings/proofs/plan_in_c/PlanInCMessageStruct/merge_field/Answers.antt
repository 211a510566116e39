use Rattle.std.proofs.Common.{refl, rules, sym, ◌∙◌}
use Rattle.wire_codec.specs.TagView.{tag_number}
use Rattle.wire_fields.specs.Arms.{arm_ok, neither, unlike}
use Rattle.wire_readings.specs.PlanCountInC.{plan_count-struct}
use Rattle.wire_readings.specs.PlanInC.{plan-done-count_kind, plan-next-struct_kind, plan-struct}
use Rattle.wire_readings.specs.PlanInC.{plan-struct_known}
use Rattle.wire_readings.specs.PlanLastInC.{plan_last-struct}
use Rattle.wire_structs.proofs.Arms.{arm_refused, rest_refused}
use Rattle.wire_structs.specs.Passed.{passes}
use Rattle.wire_readings.proofs.plan_in_c.PlanInCMessageStruct.merge_field.Goals as goal

pub returns-in-1-clause-ok : goal.returns-in-1-clause-ok
returns-in-1-clause-ok c =
    arm_ok plan-struct.takes plan-next-struct_kind.kind.takes 1 _
    (sym c.field_number.ensures.number ∙ c.in-1.is) _ _ _ _
    (λ charge p h. (((h, refl), refl), refl)) _ _ _ _ _
    c.merge_optional_message.result c.merge_optional_message.ensures.ok

pub returns-in-1-clause-err : goal.returns-in-1-clause-err
returns-in-1-clause-err c =
    arm_refused plan-struct.takes plan-next-struct_kind.kind.takes 1 _
    (sym c.field_number.ensures.number ∙ c.in-1.is) _ _
    (λ charge z p h. (z.0.0.0, h.0.0.0)) _ _ _
    c.merge_optional_message.result c.merge_optional_message.ensures.err

pub returns-in-2-clause-ok : goal.returns-in-2-clause-ok
returns-in-2-clause-ok c =
    arm_ok plan-struct.takes plan-done-count_kind.kind.takes 2 _
    (sym c.field_number.ensures.number ∙ c.in-2.is) _ _ _ _
    (λ charge p h. (((h, refl), refl), refl)) _ _ _ _ _
    c.merge_message_count.result c.merge_message_count.ensures.ok

pub returns-in-2-clause-err : goal.returns-in-2-clause-err
returns-in-2-clause-err c =
    arm_refused plan-struct.takes plan-done-count_kind.kind.takes 2 _
    (sym c.field_number.ensures.number ∙ c.in-2.is) _ _
    (λ charge z p h. (z.0.0.1, h.0.0.0)) _ _ _
    c.merge_message_count.result c.merge_message_count.ensures.err

pub returns-in-3-clause-ok : goal.returns-in-3-clause-ok
returns-in-3-clause-ok c =
    arm_ok plan-struct.takes plan_last-struct.takes 3 _
    (sym c.field_number.ensures.number ∙ c.in-3.is) _ _ _ _
    (λ charge p h. (((h, refl), refl), refl)) _ _ _ _ _
    c.merge.result c.merge.ensures.ok

pub returns-in-3-clause-err : goal.returns-in-3-clause-err
returns-in-3-clause-err c =
    arm_refused plan-struct.takes plan_last-struct.takes 3 _
    (sym c.field_number.ensures.number ∙ c.in-3.is) _ _
    (λ charge z p h. (z.0.1.0, h.0.0.0)) _ _ _
    c.merge.result c.merge.ensures.err

pub returns-in-4-clause-ok : goal.returns-in-4-clause-ok
returns-in-4-clause-ok c =
    arm_ok plan-struct.takes plan_last-struct.takes 4 _
    (sym c.field_number.ensures.number ∙ c.in-4.is) _ _ _ _
    (λ charge p h. (((h, refl), refl), refl)) _ _ _ _ _
    (c.merge-in-4).result (c.merge-in-4).ensures.ok

pub returns-in-4-clause-err : goal.returns-in-4-clause-err
returns-in-4-clause-err c =
    arm_refused plan-struct.takes plan_last-struct.takes 4 _
    (sym c.field_number.ensures.number ∙ c.in-4.is) _ _
    (λ charge z p h. (z.0.1.0, h.0.0.0)) _ _ _
    (c.merge-in-4).result (c.merge-in-4).ensures.err

pub returns-in-5-clause-ok : goal.returns-in-5-clause-ok
returns-in-5-clause-ok c =
    arm_ok plan-struct.takes plan_count-struct.takes 5 _
    (sym c.field_number.ensures.number ∙ c.in-5.is) _ _ _ _
    (λ charge p h. (((h, refl), refl), refl)) _ _ _ _ _
    (c.merge-in-5).result (c.merge-in-5).ensures.ok

pub returns-in-5-clause-err : goal.returns-in-5-clause-err
returns-in-5-clause-err c =
    arm_refused plan-struct.takes plan_count-struct.takes 5 _
    (sym c.field_number.ensures.number ∙ c.in-5.is) _ _
    (λ charge z p h. (z.0.1.1, h.0.0.0)) _ _ _
    (c.merge-in-5).result (c.merge-in-5).ensures.err

pub returns-in-6-clause-ok : goal.returns-in-6-clause-ok
returns-in-6-clause-ok c =
    arm_ok plan-struct.takes plan_count-struct.takes 6 _
    (sym c.field_number.ensures.number ∙ c.in-6.is) _ _ _ _
    (λ charge p h. (((h, refl), refl), refl)) _ _ _ _ _
    (c.merge-in-6).result (c.merge-in-6).ensures.ok

pub returns-in-6-clause-err : goal.returns-in-6-clause-err
returns-in-6-clause-err c =
    arm_refused plan-struct.takes plan_count-struct.takes 6 _
    (sym c.field_number.ensures.number ∙ c.in-6.is) _ _
    (λ charge z p h. (z.0.1.1, h.0.0.0)) _ _ _
    (c.merge-in-6).result (c.merge-in-6).ensures.err

pub returns-in_default-clause-err : goal.returns-in_default-clause-err
returns-in_default-clause-err c =
    let n = tag_number c.args.tag in
    rest_refused plan-struct_known.owns plan-struct_known.takes passes n
    (λ p. neither _ _ (neither _ _ (unlike n 1 (search rules))
    (unlike n 2 (search rules)))
    (neither _ _ (neither _ _ (unlike n 3 (search rules))
    (unlike n 4 (search rules)))
    (neither _ _ (unlike n 5 (search rules))
    (unlike n 6 (search rules)))))
    _ _ _ _ c.pass_by.result c.pass_by.ensures.err
