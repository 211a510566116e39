use Rattle.std.proofs.Common.{inl, inr, refl, rules, sym, ◌∙◌}
use Rattle.std.specs.Prelude.{Some}
use Rattle.wire_codec.specs.TagView.{tag_number}
use Rattle.wire_fields.specs.Arms.{arm_ok, unlike}
use Rattle.wire_fields.specs.Messages.{embedded_always}
use Rattle.wire_readings.specs.PlanLastInC.{place-of-plan_last-shown-as, plan_last-shown}
use Rattle.wire_readings.specs.PlanLastInC.{plan_last-shown-front, plan_last-struct}
use Rattle.wire_readings.specs.PointInC.{point-struct}
use Rattle.wire_readings.specs.VisitInC.{visit-struct}
use Rattle.wire_structs.proofs.Arms.{arm_refused, last_ok, last_refused, stood_ok, stood_refused}
use Rattle.wire_readings.proofs.plan_last_in_c.PlanLastInC.merge.Goals as goal

pub returns-in-3-clause-ok : goal.returns-in-3-clause-ok
returns-in-3-clause-ok c =
    let n = tag_number c.args.tag in
    rw c.stand.ensures.which (arm_ok plan_last-struct.takes
    (embedded_always visit-struct).kind.takes 3 _
    (sym c.field_number.ensures.number ∙ c.in-3.is) _ _ _ _
    (λ charge p h. (_, h, refl)) _ _ _ _ _
    c.merge_message.result (stood_ok (embedded_always visit-struct).kind.takes _ _
    (c.stand.ensures.of_3 refl) _ _ _ _ _ _ _ _ c.merge_message.ensures.ok))

pub returns-in-3-clause-err : goal.returns-in-3-clause-err
returns-in-3-clause-err c =
    let n = tag_number c.args.tag in
    arm_refused plan_last-struct.takes
    (embedded_always visit-struct).kind.takes 3 _
    (sym c.field_number.ensures.number ∙ c.in-3.is) _ _
    (λ charge z p h. (h.0, h.1)) _ _ _
    c.merge_message.result (stood_refused (embedded_always visit-struct).kind.takes _ _
    (c.stand.ensures.of_3 refl) _ _ _ _ _ c.merge_message.ensures.err)

pub returns-in_default-clause-ok : goal.returns-in_default-clause-ok
returns-in_default-clause-ok c =
    let n = tag_number c.args.tag in
    rw (c.stand-in_default).ensures.which (last_ok plan_last-shown-front
    (embedded_always point-struct).kind place-of-plan_last-shown-as
    (λ x. Some (inr x)) n
    (λ p. unlike n 3 (search rules))
    (plan_last-shown c.args.self.now) _ (λ charge p u h. h) _ _ _ _ _ _
    (c.merge_message-in_default).result (stood_ok (embedded_always point-struct).kind.takes _ _
    ((c.stand-in_default).ensures.of_4 refl) _ _ _ _ _ _ _ _ (c.merge_message-in_default).ensures.ok))

pub returns-in_default-clause-err : goal.returns-in_default-clause-err
returns-in_default-clause-err c =
    let n = tag_number c.args.tag in
    last_refused plan_last-shown-front
    (embedded_always point-struct).kind place-of-plan_last-shown-as
    (λ x. Some (inr x)) n
    (λ p. unlike n 3 (search rules))
    (plan_last-shown c.args.self.now) _ (λ charge p u h. h) _ _ _
    (c.merge_message-in_default).result (stood_refused (embedded_always point-struct).kind.takes _ _
    ((c.stand-in_default).ensures.of_4 refl) _ _ _ _ _ (c.merge_message-in_default).ensures.err)
