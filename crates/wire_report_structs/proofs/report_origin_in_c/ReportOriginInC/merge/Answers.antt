use Rattle.std.proofs.Common.{inl, inr, refl, rules, sym, ◌∙◌}
use Rattle.std.specs.Prelude.{Some}
use Rattle.wire_codec.specs.TagView.{tag_number}
use Rattle.wire_codec.specs.ValueMap.{uint64}
use Rattle.wire_fields.specs.Arms.{arm_ok, neither, unlike}
use Rattle.wire_fields.specs.Messages.{embedded_always}
use Rattle.wire_fields.specs.Numbers.{numeric}
use Rattle.wire_fields.specs.Presence.{always}
use Rattle.wire_fields.specs.Texts.{string}
use Rattle.wire_fields.specs.declared.form.Form.TheVariants.{Varint}
use Rattle.wire_report_structs.specs.ReportOriginInC.{report_origin-shown}
use Rattle.wire_report_structs.specs.ReportOriginInC.{report_origin-shown-front}
use Rattle.wire_report_structs.specs.ReportOriginInC.{report_origin-struct}
use Rattle.wire_report_structs.specs.ReportOriginInC.{sample-of-report_origin-shown-as}
use Rattle.wire_report_structs.specs.ReportSampleInC.{report_sample-struct}
use Rattle.wire_structs.proofs.Arms.{arm_refused, last_ok, last_refused, stood_ok, stood_refused}
use Rattle.wire_report_structs.proofs.report_origin_in_c.ReportOriginInC.merge.Goals as goal

pub returns-in-13-clause-ok : goal.returns-in-13-clause-ok
returns-in-13-clause-ok c =
    let n = tag_number c.args.tag in
    rw c.stand.ensures.which (arm_ok report_origin-struct.takes
    (always string).kind.takes 13 _
    (sym c.field_number.ensures.number ∙ c.in-13.is) _ _ _ _
    (λ charge p h. (_, h, refl)) _ _ _ _ _
    c.merge_value.result (c.merge_value.ensures.ok _))

pub returns-in-13-clause-err : goal.returns-in-13-clause-err
returns-in-13-clause-err c =
    let n = tag_number c.args.tag in
    arm_refused report_origin-struct.takes
    (always string).kind.takes 13 _
    (sym c.field_number.ensures.number ∙ c.in-13.is) _ _
    (λ charge z p h. (h.0, h.1)) _ _ _
    c.merge_value.result (c.merge_value.ensures.err _)

pub returns-in-14-clause-ok : goal.returns-in-14-clause-ok
returns-in-14-clause-ok c =
    let n = tag_number c.args.tag in
    rw (c.stand-in-14).ensures.which (arm_ok report_origin-struct.takes
    (always (numeric Varint uint64)).kind.takes 14 _
    (sym c.field_number.ensures.number ∙ c.in-14.is) _ _ _ _
    (λ charge p h. (_, h, refl)) _ _ _ _ _
    (c.merge_value-in-14).result ((c.merge_value-in-14).ensures.ok _))

pub returns-in-14-clause-err : goal.returns-in-14-clause-err
returns-in-14-clause-err c =
    let n = tag_number c.args.tag in
    arm_refused report_origin-struct.takes
    (always (numeric Varint uint64)).kind.takes 14 _
    (sym c.field_number.ensures.number ∙ c.in-14.is) _ _
    (λ charge z p h. (h.0, h.1)) _ _ _
    (c.merge_value-in-14).result ((c.merge_value-in-14).ensures.err _)

pub returns-in_default-clause-ok : goal.returns-in_default-clause-ok
returns-in_default-clause-ok c =
    let n = tag_number c.args.tag in
    rw (c.stand-in_default).ensures.which (last_ok report_origin-shown-front
    (embedded_always report_sample-struct).kind sample-of-report_origin-shown-as
    (λ x. Some (inr (inr x))) n
    (λ p. neither _ _ (unlike n 13 (search rules))
    (unlike n 14 (search rules)))
    (report_origin-shown c.args.self.now) _ (λ charge p u h. h) _ _ _ _ _ _
    c.merge_message.result (stood_ok (embedded_always report_sample-struct).kind.takes _ _
    ((c.stand-in_default).ensures.of_16 refl) _ _ _ _ _ _ _ _ c.merge_message.ensures.ok))

pub returns-in_default-clause-err : goal.returns-in_default-clause-err
returns-in_default-clause-err c =
    let n = tag_number c.args.tag in
    last_refused report_origin-shown-front
    (embedded_always report_sample-struct).kind sample-of-report_origin-shown-as
    (λ x. Some (inr (inr x))) n
    (λ p. neither _ _ (unlike n 13 (search rules))
    (unlike n 14 (search rules)))
    (report_origin-shown c.args.self.now) _ (λ charge p u h. h) _ _ _
    c.merge_message.result (stood_refused (embedded_always report_sample-struct).kind.takes _ _
    ((c.stand-in_default).ensures.of_16 refl) _ _ _ _ _ c.merge_message.ensures.err)
