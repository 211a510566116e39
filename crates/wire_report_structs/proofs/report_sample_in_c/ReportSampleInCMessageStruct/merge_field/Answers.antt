use Rattle.std.proofs.Common.{refl, rules, sym, ◌∙◌}
use Rattle.wire_codec.specs.TagView.{tag_number}
use Rattle.wire_fields.specs.Arms.{arm_ok, neither, unlike}
use Rattle.wire_report_structs.specs.ReportSample.{report_sample-count-kind, report_sample-known}
use Rattle.wire_report_structs.specs.ReportSample.{report_sample-name-kind}
use Rattle.wire_report_structs.specs.ReportSample.{report_sample-value-kind}
use Rattle.wire_report_structs.specs.ReportSampleInC.{report_sample-struct}
use Rattle.wire_structs.proofs.Arms.{arm_refused, rest_refused}
use Rattle.wire_structs.specs.Passed.{passes}
use Rattle.wire_report_structs.proofs.report_sample_in_c.ReportSampleInCMessageStruct.merge_field.Goals as goal

pub returns-in-1-clause-ok : goal.returns-in-1-clause-ok
returns-in-1-clause-ok c =
    arm_ok report_sample-struct.takes report_sample-name-kind.kind.takes 1 _
    (sym c.field_number.ensures.number ∙ c.in-1.is) _ _ _ _
    (λ charge p h. (((h, refl), refl), refl)) _ _ _ _ _
    c.merge_value.result (c.merge_value.ensures.ok _)

pub returns-in-1-clause-err : goal.returns-in-1-clause-err
returns-in-1-clause-err c =
    arm_refused report_sample-struct.takes report_sample-name-kind.kind.takes 1 _
    (sym c.field_number.ensures.number ∙ c.in-1.is) _ _
    (λ charge z p h. (z.0.0.0, h.0.0.0)) _ _ _
    c.merge_value.result (c.merge_value.ensures.err _)

pub returns-in-2-clause-ok : goal.returns-in-2-clause-ok
returns-in-2-clause-ok c =
    arm_ok report_sample-struct.takes report_sample-value-kind.kind.takes 2 _
    (sym c.field_number.ensures.number ∙ c.in-2.is) _ _ _ _
    (λ charge p h. (((h, refl), refl), refl)) _ _ _ _ _
    (c.merge_value-in-2).result ((c.merge_value-in-2).ensures.ok _)

pub returns-in-2-clause-err : goal.returns-in-2-clause-err
returns-in-2-clause-err c =
    arm_refused report_sample-struct.takes report_sample-value-kind.kind.takes 2 _
    (sym c.field_number.ensures.number ∙ c.in-2.is) _ _
    (λ charge z p h. (z.0.0.1, h.0.0.0)) _ _ _
    (c.merge_value-in-2).result ((c.merge_value-in-2).ensures.err _)

pub returns-in-3-clause-ok : goal.returns-in-3-clause-ok
returns-in-3-clause-ok c =
    arm_ok report_sample-struct.takes report_sample-count-kind.kind.takes 3 _
    (sym c.field_number.ensures.number ∙ c.in-3.is) _ _ _ _
    (λ charge p h. ((h, refl), refl)) _ _ _ _ _
    c.merge_optional.result (c.merge_optional.ensures.ok _)

pub returns-in-3-clause-err : goal.returns-in-3-clause-err
returns-in-3-clause-err c =
    arm_refused report_sample-struct.takes report_sample-count-kind.kind.takes 3 _
    (sym c.field_number.ensures.number ∙ c.in-3.is) _ _
    (λ charge z p h. (z.0.1, h.0.0)) _ _ _
    c.merge_optional.result (c.merge_optional.ensures.err _)

pub returns-in_default-clause-err : goal.returns-in_default-clause-err
returns-in_default-clause-err c =
    let n = tag_number c.args.tag in
    rest_refused report_sample-known.owns report_sample-known.takes passes n
    (λ p. neither _ _ (neither _ _ (unlike n 1 (search rules))
    (unlike n 2 (search rules)))
    (unlike n 3 (search rules)))
    _ _ _ _ c.pass_by.result c.pass_by.ensures.err
