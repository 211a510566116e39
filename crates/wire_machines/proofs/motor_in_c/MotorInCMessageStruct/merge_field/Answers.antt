use Rattle.std.proofs.Common.{refl, rules, sym, ◌∙◌}
use Rattle.wire_codec.specs.TagView.{tag_number}
use Rattle.wire_fields.specs.Arms.{arm_ok, neither, to_rest, unlike}
use Rattle.wire_machines.specs.Motor.{motor-drift-kind, motor-heat-kind, motor-is_on-kind}
use Rattle.wire_machines.specs.Motor.{motor-key-kind, motor-least-kind, motor-load-kind}
use Rattle.wire_machines.specs.Motor.{motor-maker-kind, motor-mode-kind, motor-name-kind}
use Rattle.wire_machines.specs.Motor.{motor-offset-kind, motor-seal-kind}
use Rattle.wire_machines.specs.MotorInC.{motor-axis-struct_kind, motor-spare-struct_kind}
use Rattle.wire_machines.specs.MotorInC.{motor-struct, motor-struct_known}
use Rattle.wire_structs.proofs.Arms.{arm_refused, rest_refused}
use Rattle.wire_structs.specs.Passed.{passes}
use Rattle.wire_machines.proofs.motor_in_c.MotorInCMessageStruct.merge_field.Goals as goal

pub returns-in-1-clause-ok : goal.returns-in-1-clause-ok
returns-in-1-clause-ok c =
    arm_ok motor-struct.takes motor-name-kind.kind.takes 1 _
    (sym c.field_number.ensures.number ∙ c.in-1.is) _ _ _ _
    (λ charge p h. (((((((h, refl), refl), refl), refl), refl), refl), refl)) _ _ _ _ _
    c.merge_optional.result (c.merge_optional.ensures.ok _)

pub returns-in-1-clause-err : goal.returns-in-1-clause-err
returns-in-1-clause-err c =
    arm_refused motor-struct.takes motor-name-kind.kind.takes 1 _
    (sym c.field_number.ensures.number ∙ c.in-1.is) _ _
    (λ charge z p h. (z.0.0.0.0.0.0.0, h.0.0.0.0.0.0.0)) _ _ _
    c.merge_optional.result (c.merge_optional.ensures.err _)

pub returns-in-2-clause-ok : goal.returns-in-2-clause-ok
returns-in-2-clause-ok c =
    arm_ok motor-struct.takes motor-maker-kind.kind.takes 2 _
    (sym c.field_number.ensures.number ∙ c.in-2.is) _ _ _ _
    (λ charge p h. (((((((h, refl), refl), refl), refl), refl), refl), refl)) _ _ _ _ _
    (c.merge_optional-in-2).result ((c.merge_optional-in-2).ensures.ok _)

pub returns-in-2-clause-err : goal.returns-in-2-clause-err
returns-in-2-clause-err c =
    arm_refused motor-struct.takes motor-maker-kind.kind.takes 2 _
    (sym c.field_number.ensures.number ∙ c.in-2.is) _ _
    (λ charge z p h. (z.0.0.0.0.0.0.1, h.0.0.0.0.0.0.0)) _ _ _
    (c.merge_optional-in-2).result ((c.merge_optional-in-2).ensures.err _)

pub returns-in-3-clause-ok : goal.returns-in-3-clause-ok
returns-in-3-clause-ok c =
    arm_ok motor-struct.takes motor-key-kind.kind.takes 3 _
    (sym c.field_number.ensures.number ∙ c.in-3.is) _ _ _ _
    (λ charge p h. (((((((h, refl), refl), refl), refl), refl), refl), refl)) _ _ _ _ _
    (c.merge_optional-in-3).result ((c.merge_optional-in-3).ensures.ok _)

pub returns-in-3-clause-err : goal.returns-in-3-clause-err
returns-in-3-clause-err c =
    arm_refused motor-struct.takes motor-key-kind.kind.takes 3 _
    (sym c.field_number.ensures.number ∙ c.in-3.is) _ _
    (λ charge z p h. (z.0.0.0.0.0.1.0, h.0.0.0.0.0.0.0)) _ _ _
    (c.merge_optional-in-3).result ((c.merge_optional-in-3).ensures.err _)

pub returns-in-4-clause-ok : goal.returns-in-4-clause-ok
returns-in-4-clause-ok c =
    arm_ok motor-struct.takes motor-seal-kind.kind.takes 4 _
    (sym c.field_number.ensures.number ∙ c.in-4.is) _ _ _ _
    (λ charge p h. (((((((h, refl), refl), refl), refl), refl), refl), refl)) _ _ _ _ _
    (c.merge_optional-in-4).result ((c.merge_optional-in-4).ensures.ok _)

pub returns-in-4-clause-err : goal.returns-in-4-clause-err
returns-in-4-clause-err c =
    arm_refused motor-struct.takes motor-seal-kind.kind.takes 4 _
    (sym c.field_number.ensures.number ∙ c.in-4.is) _ _
    (λ charge z p h. (z.0.0.0.0.0.1.1, h.0.0.0.0.0.0.0)) _ _ _
    (c.merge_optional-in-4).result ((c.merge_optional-in-4).ensures.err _)

pub returns-in-5-clause-ok : goal.returns-in-5-clause-ok
returns-in-5-clause-ok c =
    arm_ok motor-struct.takes motor-mode-kind.kind.takes 5 _
    (sym c.field_number.ensures.number ∙ c.in-5.is) _ _ _ _
    (λ charge p h. (((((((h, refl), refl), refl), refl), refl), refl), refl)) _ _ _ _ _
    (c.merge_optional-in-5).result ((c.merge_optional-in-5).ensures.ok _)

pub returns-in-5-clause-err : goal.returns-in-5-clause-err
returns-in-5-clause-err c =
    arm_refused motor-struct.takes motor-mode-kind.kind.takes 5 _
    (sym c.field_number.ensures.number ∙ c.in-5.is) _ _
    (λ charge z p h. (z.0.0.0.0.1.0.0, h.0.0.0.0.0.0.0)) _ _ _
    (c.merge_optional-in-5).result ((c.merge_optional-in-5).ensures.err _)

pub returns-in-6-clause-ok : goal.returns-in-6-clause-ok
returns-in-6-clause-ok c =
    arm_ok motor-struct.takes motor-least-kind.kind.takes 6 _
    (sym c.field_number.ensures.number ∙ c.in-6.is) _ _ _ _
    (λ charge p h. (((((((h, refl), refl), refl), refl), refl), refl), refl)) _ _ _ _ _
    (c.merge_optional-in-6).result ((c.merge_optional-in-6).ensures.ok _)

pub returns-in-6-clause-err : goal.returns-in-6-clause-err
returns-in-6-clause-err c =
    arm_refused motor-struct.takes motor-least-kind.kind.takes 6 _
    (sym c.field_number.ensures.number ∙ c.in-6.is) _ _
    (λ charge z p h. (z.0.0.0.0.1.0.1, h.0.0.0.0.0.0.0)) _ _ _
    (c.merge_optional-in-6).result ((c.merge_optional-in-6).ensures.err _)

pub returns-in-7-clause-ok : goal.returns-in-7-clause-ok
returns-in-7-clause-ok c =
    arm_ok motor-struct.takes motor-axis-struct_kind.kind.takes 7 _
    (sym c.field_number.ensures.number ∙ c.in-7.is) _ _ _ _
    (λ charge p h. (((((((h, refl), refl), refl), refl), refl), refl), refl)) _ _ _ _ _
    c.merge_optional_message.result c.merge_optional_message.ensures.ok

pub returns-in-7-clause-err : goal.returns-in-7-clause-err
returns-in-7-clause-err c =
    arm_refused motor-struct.takes motor-axis-struct_kind.kind.takes 7 _
    (sym c.field_number.ensures.number ∙ c.in-7.is) _ _
    (λ charge z p h. (z.0.0.0.0.1.1.0, h.0.0.0.0.0.0.0)) _ _ _
    c.merge_optional_message.result c.merge_optional_message.ensures.err

pub returns-in-8-clause-ok : goal.returns-in-8-clause-ok
returns-in-8-clause-ok c =
    arm_ok motor-struct.takes motor-spare-struct_kind.kind.takes 8 _
    (sym c.field_number.ensures.number ∙ c.in-8.is) _ _ _ _
    (λ charge p h. (((((((h, refl), refl), refl), refl), refl), refl), refl)) _ _ _ _ _
    (c.merge_optional_message-in-8).result (c.merge_optional_message-in-8).ensures.ok

pub returns-in-8-clause-err : goal.returns-in-8-clause-err
returns-in-8-clause-err c =
    arm_refused motor-struct.takes motor-spare-struct_kind.kind.takes 8 _
    (sym c.field_number.ensures.number ∙ c.in-8.is) _ _
    (λ charge z p h. (z.0.0.0.0.1.1.1, h.0.0.0.0.0.0.0)) _ _ _
    (c.merge_optional_message-in-8).result (c.merge_optional_message-in-8).ensures.err

pub returns-in-9-clause-ok : goal.returns-in-9-clause-ok
returns-in-9-clause-ok c =
    arm_ok motor-struct.takes motor-is_on-kind.kind.takes 9 _
    (sym c.field_number.ensures.number ∙ c.in-9.is) _ _ _ _
    (λ charge p h. ((((h, refl), refl), refl), refl)) _ _ _ _ _
    (c.merge_optional-in-9).result ((c.merge_optional-in-9).ensures.ok _)

pub returns-in-9-clause-err : goal.returns-in-9-clause-err
returns-in-9-clause-err c =
    arm_refused motor-struct.takes motor-is_on-kind.kind.takes 9 _
    (sym c.field_number.ensures.number ∙ c.in-9.is) _ _
    (λ charge z p h. (z.0.0.0.1, h.0.0.0.0)) _ _ _
    (c.merge_optional-in-9).result ((c.merge_optional-in-9).ensures.err _)

pub returns-in-10-clause-ok : goal.returns-in-10-clause-ok
returns-in-10-clause-ok c =
    arm_ok motor-struct.takes motor-load-kind.kind.takes 10 _
    (sym c.field_number.ensures.number ∙ c.in-10.is) _ _ _ _
    (λ charge p h. ((((h, refl), refl), refl), refl)) _ _ _ _ _
    (c.merge_optional-in-10).result ((c.merge_optional-in-10).ensures.ok _)

pub returns-in-10-clause-err : goal.returns-in-10-clause-err
returns-in-10-clause-err c =
    arm_refused motor-struct.takes motor-load-kind.kind.takes 10 _
    (sym c.field_number.ensures.number ∙ c.in-10.is) _ _
    (λ charge z p h. (z.0.0.1.0, h.0.0.0.0)) _ _ _
    (c.merge_optional-in-10).result ((c.merge_optional-in-10).ensures.err _)

pub returns-in-11-clause-ok : goal.returns-in-11-clause-ok
returns-in-11-clause-ok c =
    arm_ok motor-struct.takes motor-heat-kind.kind.takes 11 _
    (sym c.field_number.ensures.number ∙ c.in-11.is) _ _ _ _
    (λ charge p h. ((((h, refl), refl), refl), refl)) _ _ _ _ _
    (c.merge_optional-in-11).result ((c.merge_optional-in-11).ensures.ok _)

pub returns-in-11-clause-err : goal.returns-in-11-clause-err
returns-in-11-clause-err c =
    arm_refused motor-struct.takes motor-heat-kind.kind.takes 11 _
    (sym c.field_number.ensures.number ∙ c.in-11.is) _ _
    (λ charge z p h. (z.0.0.1.1, h.0.0.0.0)) _ _ _
    (c.merge_optional-in-11).result ((c.merge_optional-in-11).ensures.err _)

pub returns-in-12-clause-ok : goal.returns-in-12-clause-ok
returns-in-12-clause-ok c =
    arm_ok motor-struct.takes motor-drift-kind.kind.takes 12 _
    (sym c.field_number.ensures.number ∙ c.in-12.is) _ _ _ _
    (λ charge p h. (((h, refl), refl), refl)) _ _ _ _ _
    (c.merge_optional-in-12).result ((c.merge_optional-in-12).ensures.ok _)

pub returns-in-12-clause-err : goal.returns-in-12-clause-err
returns-in-12-clause-err c =
    arm_refused motor-struct.takes motor-drift-kind.kind.takes 12 _
    (sym c.field_number.ensures.number ∙ c.in-12.is) _ _
    (λ charge z p h. (z.0.1.0, h.0.0.0)) _ _ _
    (c.merge_optional-in-12).result ((c.merge_optional-in-12).ensures.err _)

pub returns-in-536870911-clause-ok : goal.returns-in-536870911-clause-ok
returns-in-536870911-clause-ok c =
    arm_ok motor-struct.takes motor-offset-kind.kind.takes 536870911 _
    (sym c.field_number.ensures.number ∙ c.in-536870911.is) _ _ _ _
    (λ charge p h. (((h, refl), refl), refl)) _ _ _ _ _
    (c.merge_optional-in-536870911).result ((c.merge_optional-in-536870911).ensures.ok _)

pub returns-in-536870911-clause-err : goal.returns-in-536870911-clause-err
returns-in-536870911-clause-err c =
    arm_refused motor-struct.takes motor-offset-kind.kind.takes 536870911 _
    (sym c.field_number.ensures.number ∙ c.in-536870911.is) _ _
    (λ charge z p h. (z.0.1.1, h.0.0.0)) _ _ _
    (c.merge_optional-in-536870911).result ((c.merge_optional-in-536870911).ensures.err _)

pub returns-in_default-clause-ok : goal.returns-in_default-clause-ok
returns-in_default-clause-ok c =
    let n = tag_number c.args.tag in
    arm_ok motor-struct.takes passes n n refl _ _ _ _
    (λ charge p h. to_rest motor-struct_known.owns motor-struct_known.takes passes n
    (λ p. neither _ _ (neither _ _
    (neither _ _ (neither _ _ (neither _ _ (neither _ _ (unlike n 1 (search rules))
    (unlike n 2 (search rules)))
    (neither _ _ (unlike n 3 (search rules))
    (unlike n 4 (search rules))))
    (neither _ _ (neither _ _ (unlike n 5 (search rules))
    (unlike n 6 (search rules)))
    (neither _ _ (unlike n 7 (search rules))
    (unlike n 8 (search rules)))))
    (unlike n 9 (search rules)))
    (neither _ _ (unlike n 10 (search rules))
    (unlike n 11 (search rules))))
    (neither _ _ (unlike n 12 (search rules))
    (unlike n 536870911 (search rules))))
    _ charge _ p h)
    _ _ _ _ _ c.pass_by.result c.pass_by.ensures.ok

pub returns-in_default-clause-err : goal.returns-in_default-clause-err
returns-in_default-clause-err c =
    let n = tag_number c.args.tag in
    rest_refused motor-struct_known.owns motor-struct_known.takes passes n
    (λ p. neither _ _ (neither _ _
    (neither _ _ (neither _ _ (neither _ _ (neither _ _ (unlike n 1 (search rules))
    (unlike n 2 (search rules)))
    (neither _ _ (unlike n 3 (search rules))
    (unlike n 4 (search rules))))
    (neither _ _ (neither _ _ (unlike n 5 (search rules))
    (unlike n 6 (search rules)))
    (neither _ _ (unlike n 7 (search rules))
    (unlike n 8 (search rules)))))
    (unlike n 9 (search rules)))
    (neither _ _ (unlike n 10 (search rules))
    (unlike n 11 (search rules))))
    (neither _ _ (unlike n 12 (search rules))
    (unlike n 536870911 (search rules))))
    _ _ _ _ c.pass_by.result c.pass_by.ensures.err
