use Rattle.std.proofs.Common.{inl, inr, refl, rules, sym, ◌∙◌}
use Rattle.std.specs.Prelude.{Some}
use Rattle.wire_codec.specs.TagView.{tag_number}
use Rattle.wire_codec.specs.ValueMap.{sint32}
use Rattle.wire_fields.specs.Arms.{arm_ok, neither, unlike}
use Rattle.wire_fields.specs.Enums.{open_enum}
use Rattle.wire_fields.specs.Floats.{double}
use Rattle.wire_fields.specs.Messages.{embedded_always}
use Rattle.wire_fields.specs.Numbers.{numeric}
use Rattle.wire_fields.specs.Presence.{always}
use Rattle.wire_fields.specs.Texts.{any_bytes, string}
use Rattle.wire_fields.specs.declared.form.Form.TheVariants.{Fixed64, Varint}
use Rattle.wire_readings.specs.ReadingInC.{reading-struct}
use Rattle.wire_readings.specs.State.{state-number, state-of}
use Rattle.wire_readings.specs.VisitCauseInC.{shift-of-visit_cause-shown-as, visit_cause-shown}
use Rattle.wire_readings.specs.VisitCauseInC.{visit_cause-shown-front, visit_cause-struct}
use Rattle.wire_structs.proofs.Arms.{arm_refused, last_ok, last_refused, stood_ok, stood_refused}
use Rattle.wire_readings.proofs.visit_cause_in_c.VisitCauseInC.merge.Goals as goal

pub returns-in-2-clause-ok : goal.returns-in-2-clause-ok
returns-in-2-clause-ok c =
    let n = tag_number c.args.tag in
    rw c.stand.ensures.which (arm_ok visit_cause-struct.takes
    (always (numeric Varint (open_enum state-number state-of))).kind.takes 2 _
    (sym c.field_number.ensures.number ∙ c.in-2.is) _ _ _ _
    (λ charge p h. (_, h, refl)) _ _ _ _ _
    c.merge_value.result (c.merge_value.ensures.ok _))

pub returns-in-2-clause-err : goal.returns-in-2-clause-err
returns-in-2-clause-err c =
    let n = tag_number c.args.tag in
    arm_refused visit_cause-struct.takes
    (always (numeric Varint (open_enum state-number state-of))).kind.takes 2 _
    (sym c.field_number.ensures.number ∙ c.in-2.is) _ _
    (λ charge z p h. (h.0, h.1)) _ _ _
    c.merge_value.result (c.merge_value.ensures.err _)

pub returns-in-3-clause-ok : goal.returns-in-3-clause-ok
returns-in-3-clause-ok c =
    let n = tag_number c.args.tag in
    rw (c.stand-in-3).ensures.which (arm_ok visit_cause-struct.takes
    (always (numeric Fixed64 double)).kind.takes 3 _
    (sym c.field_number.ensures.number ∙ c.in-3.is) _ _ _ _
    (λ charge p h. (_, h, refl)) _ _ _ _ _
    (c.merge_value-in-3).result ((c.merge_value-in-3).ensures.ok _))

pub returns-in-3-clause-err : goal.returns-in-3-clause-err
returns-in-3-clause-err c =
    let n = tag_number c.args.tag in
    arm_refused visit_cause-struct.takes
    (always (numeric Fixed64 double)).kind.takes 3 _
    (sym c.field_number.ensures.number ∙ c.in-3.is) _ _
    (λ charge z p h. (h.0, h.1)) _ _ _
    (c.merge_value-in-3).result ((c.merge_value-in-3).ensures.err _)

pub returns-in-4-clause-ok : goal.returns-in-4-clause-ok
returns-in-4-clause-ok c =
    let n = tag_number c.args.tag in
    rw (c.stand-in-4).ensures.which (arm_ok visit_cause-struct.takes
    (always string).kind.takes 4 _
    (sym c.field_number.ensures.number ∙ c.in-4.is) _ _ _ _
    (λ charge p h. (_, h, refl)) _ _ _ _ _
    (c.merge_value-in-4).result ((c.merge_value-in-4).ensures.ok _))

pub returns-in-4-clause-err : goal.returns-in-4-clause-err
returns-in-4-clause-err c =
    let n = tag_number c.args.tag in
    arm_refused visit_cause-struct.takes
    (always string).kind.takes 4 _
    (sym c.field_number.ensures.number ∙ c.in-4.is) _ _
    (λ charge z p h. (h.0, h.1)) _ _ _
    (c.merge_value-in-4).result ((c.merge_value-in-4).ensures.err _)

pub returns-in-6-clause-ok : goal.returns-in-6-clause-ok
returns-in-6-clause-ok c =
    let n = tag_number c.args.tag in
    rw (c.stand-in-6).ensures.which (arm_ok visit_cause-struct.takes
    (embedded_always reading-struct).kind.takes 6 _
    (sym c.field_number.ensures.number ∙ c.in-6.is) _ _ _ _
    (λ charge p h. (_, h, refl)) _ _ _ _ _
    c.merge_message.result (stood_ok (embedded_always reading-struct).kind.takes _ _
    ((c.stand-in-6).ensures.of_6 refl) _ _ _ _ _ _ _ _ c.merge_message.ensures.ok))

pub returns-in-6-clause-err : goal.returns-in-6-clause-err
returns-in-6-clause-err c =
    let n = tag_number c.args.tag in
    arm_refused visit_cause-struct.takes
    (embedded_always reading-struct).kind.takes 6 _
    (sym c.field_number.ensures.number ∙ c.in-6.is) _ _
    (λ charge z p h. (h.0, h.1)) _ _ _
    c.merge_message.result (stood_refused (embedded_always reading-struct).kind.takes _ _
    ((c.stand-in-6).ensures.of_6 refl) _ _ _ _ _ c.merge_message.ensures.err)

pub returns-in-8-clause-ok : goal.returns-in-8-clause-ok
returns-in-8-clause-ok c =
    let n = tag_number c.args.tag in
    rw (c.stand-in-8).ensures.which (arm_ok visit_cause-struct.takes
    (always any_bytes).kind.takes 8 _
    (sym c.field_number.ensures.number ∙ c.in-8.is) _ _ _ _
    (λ charge p h. (_, h, refl)) _ _ _ _ _
    (c.merge_value-in-8).result ((c.merge_value-in-8).ensures.ok _))

pub returns-in-8-clause-err : goal.returns-in-8-clause-err
returns-in-8-clause-err c =
    let n = tag_number c.args.tag in
    arm_refused visit_cause-struct.takes
    (always any_bytes).kind.takes 8 _
    (sym c.field_number.ensures.number ∙ c.in-8.is) _ _
    (λ charge z p h. (h.0, h.1)) _ _ _
    (c.merge_value-in-8).result ((c.merge_value-in-8).ensures.err _)

pub returns-in_default-clause-ok : goal.returns-in_default-clause-ok
returns-in_default-clause-ok c =
    let n = tag_number c.args.tag in
    rw (c.stand-in_default).ensures.which (last_ok visit_cause-shown-front
    (always (numeric Varint sint32)).kind shift-of-visit_cause-shown-as
    (λ x. Some (inr (inr (inr (inr (inr x)))))) n
    (λ p. neither _ _ (neither _ _ (neither _ _ (neither _ _ (unlike n 2 (search rules))
    (unlike n 3 (search rules)))
    (unlike n 4 (search rules)))
    (unlike n 6 (search rules)))
    (unlike n 8 (search rules)))
    (visit_cause-shown c.args.self.now) _ (λ charge p u h. h) _ _ _ _ _ _
    (c.merge_value-in_default).result ((c.merge_value-in_default).ensures.ok _))

pub returns-in_default-clause-err : goal.returns-in_default-clause-err
returns-in_default-clause-err c =
    let n = tag_number c.args.tag in
    last_refused visit_cause-shown-front
    (always (numeric Varint sint32)).kind shift-of-visit_cause-shown-as
    (λ x. Some (inr (inr (inr (inr (inr x)))))) n
    (λ p. neither _ _ (neither _ _ (neither _ _ (neither _ _ (unlike n 2 (search rules))
    (unlike n 3 (search rules)))
    (unlike n 4 (search rules)))
    (unlike n 6 (search rules)))
    (unlike n 8 (search rules)))
    (visit_cause-shown c.args.self.now) _ (λ charge p u h. h) _ _ _
    (c.merge_value-in_default).result ((c.merge_value-in_default).ensures.err _)
