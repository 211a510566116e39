use Rattle.std.proofs.Common.{inl, inr, refl, rules, sym, ◌∙◌}
use Rattle.std.specs.Prelude.{Some}
use Rattle.wire_codec.specs.TagView.{tag_number}
use Rattle.wire_codec.specs.ValueMap.{int64, uint32}
use Rattle.wire_fields.specs.Arms.{arm_ok, unlike}
use Rattle.wire_fields.specs.Numbers.{numeric}
use Rattle.wire_fields.specs.Presence.{always}
use Rattle.wire_fields.specs.declared.form.Form.TheVariants.{Varint}
use Rattle.wire_readings.specs.PlanCountInC.{about-of-plan_count-shown-as, plan_count-shown}
use Rattle.wire_readings.specs.PlanCountInC.{plan_count-shown-front, plan_count-struct}
use Rattle.wire_structs.proofs.Arms.{arm_refused, last_ok, last_refused}
use Rattle.wire_readings.proofs.plan_count_in_c.PlanCountInC.merge.Goals as goal

pub returns-in-5-clause-ok : goal.returns-in-5-clause-ok
returns-in-5-clause-ok c =
    let n = tag_number c.args.tag in
    rw c.stand.ensures.which (arm_ok plan_count-struct.takes
    (always (numeric Varint int64)).kind.takes 5 _
    (sym c.field_number.ensures.number ∙ c.in-5.is) _ _ _ _
    (λ charge p h. (_, h, refl)) _ _ _ _ _
    c.merge_value.result (c.merge_value.ensures.ok _))

pub returns-in-5-clause-err : goal.returns-in-5-clause-err
returns-in-5-clause-err c =
    let n = tag_number c.args.tag in
    arm_refused plan_count-struct.takes
    (always (numeric Varint int64)).kind.takes 5 _
    (sym c.field_number.ensures.number ∙ c.in-5.is) _ _
    (λ charge z p h. (h.0, h.1)) _ _ _
    c.merge_value.result (c.merge_value.ensures.err _)

pub returns-in_default-clause-ok : goal.returns-in_default-clause-ok
returns-in_default-clause-ok c =
    let n = tag_number c.args.tag in
    rw (c.stand-in_default).ensures.which (last_ok plan_count-shown-front
    (always (numeric Varint uint32)).kind about-of-plan_count-shown-as
    (λ x. Some (inr x)) n
    (λ p. unlike n 5 (search rules))
    (plan_count-shown c.args.self.now) _ (λ charge p u h. h) _ _ _ _ _ _
    (c.merge_value-in_default).result ((c.merge_value-in_default).ensures.ok _))

pub returns-in_default-clause-err : goal.returns-in_default-clause-err
returns-in_default-clause-err c =
    let n = tag_number c.args.tag in
    last_refused plan_count-shown-front
    (always (numeric Varint uint32)).kind about-of-plan_count-shown-as
    (λ x. Some (inr x)) n
    (λ p. unlike n 5 (search rules))
    (plan_count-shown c.args.self.now) _ (λ charge p u h. h) _ _ _
    (c.merge_value-in_default).result ((c.merge_value-in_default).ensures.err _)
