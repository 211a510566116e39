use Rattle.std.proofs.Common.{refl, rules, sym, ◌∙◌}
use Rattle.wire_codec.specs.TagView.{tag_number}
use Rattle.wire_fields.specs.Arms.{arm_ok, neither, to_rest, unlike}
use Rattle.wire_report_structs.specs.Report.{report-host-kind, report-level-kind, report-load-kind}
use Rattle.wire_report_structs.specs.Report.{report-sent_at-kind, report-signature-kind}
use Rattle.wire_report_structs.specs.Report.{report-type_-kind}
use Rattle.wire_report_structs.specs.ReportInC.{report-labels-count_kind, report-last-count_kind}
use Rattle.wire_report_structs.specs.ReportInC.{report-notes-count_kind, report-offsets-count_kind}
use Rattle.wire_report_structs.specs.ReportInC.{report-ports-count_kind, report-samples-count_kind}
use Rattle.wire_report_structs.specs.ReportInC.{report-struct, report-struct_known}
use Rattle.wire_report_structs.specs.ReportInC.{report-worst-struct_kind}
use Rattle.wire_report_structs.specs.ReportOriginInC.{report_origin-struct}
use Rattle.wire_structs.proofs.Arms.{arm_refused, rest_refused}
use Rattle.wire_structs.specs.Passed.{passes}
use Rattle.wire_report_structs.proofs.report_in_c.ReportInCMessageStruct.merge_field.Goals as goal

pub returns-in-1-clause-ok : goal.returns-in-1-clause-ok
returns-in-1-clause-ok c =
    arm_ok report-struct.takes report-host-kind.kind.takes 1 _
    (sym c.field_number.ensures.number ∙ c.in-1.is) _ _ _ _
    (λ charge p h. (((((((h, refl), refl), refl), refl), refl), refl), refl)) _ _ _ _ _
    c.merge_value.result (c.merge_value.ensures.ok _)

pub returns-in-1-clause-err : goal.returns-in-1-clause-err
returns-in-1-clause-err c =
    arm_refused report-struct.takes report-host-kind.kind.takes 1 _
    (sym c.field_number.ensures.number ∙ c.in-1.is) _ _
    (λ charge z p h. (z.0.0.0.0.0.0.0, h.0.0.0.0.0.0.0)) _ _ _
    c.merge_value.result (c.merge_value.ensures.err _)

pub returns-in-2-clause-ok : goal.returns-in-2-clause-ok
returns-in-2-clause-ok c =
    arm_ok report-struct.takes report-sent_at-kind.kind.takes 2 _
    (sym c.field_number.ensures.number ∙ c.in-2.is) _ _ _ _
    (λ charge p h. (((((((h, refl), refl), refl), refl), refl), refl), refl)) _ _ _ _ _
    (c.merge_value-in-2).result ((c.merge_value-in-2).ensures.ok _)

pub returns-in-2-clause-err : goal.returns-in-2-clause-err
returns-in-2-clause-err c =
    arm_refused report-struct.takes report-sent_at-kind.kind.takes 2 _
    (sym c.field_number.ensures.number ∙ c.in-2.is) _ _
    (λ charge z p h. (z.0.0.0.0.0.0.1, h.0.0.0.0.0.0.0)) _ _ _
    (c.merge_value-in-2).result ((c.merge_value-in-2).ensures.err _)

pub returns-in-3-clause-ok : goal.returns-in-3-clause-ok
returns-in-3-clause-ok c =
    arm_ok report-struct.takes report-level-kind.kind.takes 3 _
    (sym c.field_number.ensures.number ∙ c.in-3.is) _ _ _ _
    (λ charge p h. (((((((h, refl), refl), refl), refl), refl), refl), refl)) _ _ _ _ _
    (c.merge_value-in-3).result ((c.merge_value-in-3).ensures.ok _)

pub returns-in-3-clause-err : goal.returns-in-3-clause-err
returns-in-3-clause-err c =
    arm_refused report-struct.takes report-level-kind.kind.takes 3 _
    (sym c.field_number.ensures.number ∙ c.in-3.is) _ _
    (λ charge z p h. (z.0.0.0.0.0.1.0, h.0.0.0.0.0.0.0)) _ _ _
    (c.merge_value-in-3).result ((c.merge_value-in-3).ensures.err _)

pub returns-in-4-clause-ok : goal.returns-in-4-clause-ok
returns-in-4-clause-ok c =
    arm_ok report-struct.takes report-samples-count_kind.kind.takes 4 _
    (sym c.field_number.ensures.number ∙ c.in-4.is) _ _ _ _
    (λ charge p h. (((((((h, refl), refl), refl), refl), refl), refl), refl)) _ _ _ _ _
    c.merge_message_count.result c.merge_message_count.ensures.ok

pub returns-in-4-clause-err : goal.returns-in-4-clause-err
returns-in-4-clause-err c =
    arm_refused report-struct.takes report-samples-count_kind.kind.takes 4 _
    (sym c.field_number.ensures.number ∙ c.in-4.is) _ _
    (λ charge z p h. (z.0.0.0.0.0.1.1, h.0.0.0.0.0.0.0)) _ _ _
    c.merge_message_count.result c.merge_message_count.ensures.err

pub returns-in-5-clause-ok : goal.returns-in-5-clause-ok
returns-in-5-clause-ok c =
    arm_ok report-struct.takes report-labels-count_kind.kind.takes 5 _
    (sym c.field_number.ensures.number ∙ c.in-5.is) _ _ _ _
    (λ charge p h. (((((((h, refl), refl), refl), refl), refl), refl), refl)) _ _ _ _ _
    (c.merge_message_count-in-5).result (c.merge_message_count-in-5).ensures.ok

pub returns-in-5-clause-err : goal.returns-in-5-clause-err
returns-in-5-clause-err c =
    arm_refused report-struct.takes report-labels-count_kind.kind.takes 5 _
    (sym c.field_number.ensures.number ∙ c.in-5.is) _ _
    (λ charge z p h. (z.0.0.0.0.1.0.0, h.0.0.0.0.0.0.0)) _ _ _
    (c.merge_message_count-in-5).result (c.merge_message_count-in-5).ensures.err

pub returns-in-6-clause-ok : goal.returns-in-6-clause-ok
returns-in-6-clause-ok c =
    arm_ok report-struct.takes report-last-count_kind.kind.takes 6 _
    (sym c.field_number.ensures.number ∙ c.in-6.is) _ _ _ _
    (λ charge p h. (((((((h, refl), refl), refl), refl), refl), refl), refl)) _ _ _ _ _
    (c.merge_message_count-in-6).result (c.merge_message_count-in-6).ensures.ok

pub returns-in-6-clause-err : goal.returns-in-6-clause-err
returns-in-6-clause-err c =
    arm_refused report-struct.takes report-last-count_kind.kind.takes 6 _
    (sym c.field_number.ensures.number ∙ c.in-6.is) _ _
    (λ charge z p h. (z.0.0.0.0.1.0.1, h.0.0.0.0.0.0.0)) _ _ _
    (c.merge_message_count-in-6).result (c.merge_message_count-in-6).ensures.err

pub returns-in-7-clause-ok : goal.returns-in-7-clause-ok
returns-in-7-clause-ok c =
    arm_ok report-struct.takes report-load-kind.kind.takes 7 _
    (sym c.field_number.ensures.number ∙ c.in-7.is) _ _ _ _
    (λ charge p h. (((((((h, refl), refl), refl), refl), refl), refl), refl)) _ _ _ _ _
    c.merge_optional.result (c.merge_optional.ensures.ok _)

pub returns-in-7-clause-err : goal.returns-in-7-clause-err
returns-in-7-clause-err c =
    arm_refused report-struct.takes report-load-kind.kind.takes 7 _
    (sym c.field_number.ensures.number ∙ c.in-7.is) _ _
    (λ charge z p h. (z.0.0.0.0.1.1.0, h.0.0.0.0.0.0.0)) _ _ _
    c.merge_optional.result (c.merge_optional.ensures.err _)

pub returns-in-8-clause-ok : goal.returns-in-8-clause-ok
returns-in-8-clause-ok c =
    arm_ok report-struct.takes report-offsets-count_kind.kind.takes 8 _
    (sym c.field_number.ensures.number ∙ c.in-8.is) _ _ _ _
    (λ charge p h. (((((((h, refl), refl), refl), refl), refl), refl), refl)) _ _ _ _ _
    c.merge_numbers_count.result (c.merge_numbers_count.ensures.ok _)

pub returns-in-8-clause-err : goal.returns-in-8-clause-err
returns-in-8-clause-err c =
    arm_refused report-struct.takes report-offsets-count_kind.kind.takes 8 _
    (sym c.field_number.ensures.number ∙ c.in-8.is) _ _
    (λ charge z p h. (z.0.0.0.0.1.1.1, h.0.0.0.0.0.0.0)) _ _ _
    c.merge_numbers_count.result (c.merge_numbers_count.ensures.err _)

pub returns-in-9-clause-ok : goal.returns-in-9-clause-ok
returns-in-9-clause-ok c =
    arm_ok report-struct.takes report-ports-count_kind.kind.takes 9 _
    (sym c.field_number.ensures.number ∙ c.in-9.is) _ _ _ _
    (λ charge p h. ((((h, refl), refl), refl), refl)) _ _ _ _ _
    (c.merge_numbers_count-in-9).result ((c.merge_numbers_count-in-9).ensures.ok _)

pub returns-in-9-clause-err : goal.returns-in-9-clause-err
returns-in-9-clause-err c =
    arm_refused report-struct.takes report-ports-count_kind.kind.takes 9 _
    (sym c.field_number.ensures.number ∙ c.in-9.is) _ _
    (λ charge z p h. (z.0.0.0.1, h.0.0.0.0)) _ _ _
    (c.merge_numbers_count-in-9).result ((c.merge_numbers_count-in-9).ensures.err _)

pub returns-in-10-clause-ok : goal.returns-in-10-clause-ok
returns-in-10-clause-ok c =
    arm_ok report-struct.takes report-notes-count_kind.kind.takes 10 _
    (sym c.field_number.ensures.number ∙ c.in-10.is) _ _ _ _
    (λ charge p h. ((((h, refl), refl), refl), refl)) _ _ _ _ _
    c.merge_count.result c.merge_count.ensures.ok

pub returns-in-10-clause-err : goal.returns-in-10-clause-err
returns-in-10-clause-err c =
    arm_refused report-struct.takes report-notes-count_kind.kind.takes 10 _
    (sym c.field_number.ensures.number ∙ c.in-10.is) _ _
    (λ charge z p h. (z.0.0.1.0, h.0.0.0.0)) _ _ _
    c.merge_count.result c.merge_count.ensures.err

pub returns-in-11-clause-ok : goal.returns-in-11-clause-ok
returns-in-11-clause-ok c =
    arm_ok report-struct.takes report-signature-kind.kind.takes 11 _
    (sym c.field_number.ensures.number ∙ c.in-11.is) _ _ _ _
    (λ charge p h. ((((h, refl), refl), refl), refl)) _ _ _ _ _
    (c.merge_value-in-11).result ((c.merge_value-in-11).ensures.ok _)

pub returns-in-11-clause-err : goal.returns-in-11-clause-err
returns-in-11-clause-err c =
    arm_refused report-struct.takes report-signature-kind.kind.takes 11 _
    (sym c.field_number.ensures.number ∙ c.in-11.is) _ _
    (λ charge z p h. (z.0.0.1.1, h.0.0.0.0)) _ _ _
    (c.merge_value-in-11).result ((c.merge_value-in-11).ensures.err _)

pub returns-in-12-clause-ok : goal.returns-in-12-clause-ok
returns-in-12-clause-ok c =
    arm_ok report-struct.takes report-worst-struct_kind.kind.takes 12 _
    (sym c.field_number.ensures.number ∙ c.in-12.is) _ _ _ _
    (λ charge p h. ((((h, refl), refl), refl), refl)) _ _ _ _ _
    c.merge_optional_message.result c.merge_optional_message.ensures.ok

pub returns-in-12-clause-err : goal.returns-in-12-clause-err
returns-in-12-clause-err c =
    arm_refused report-struct.takes report-worst-struct_kind.kind.takes 12 _
    (sym c.field_number.ensures.number ∙ c.in-12.is) _ _
    (λ charge z p h. (z.0.1.0.0, h.0.0.0.0)) _ _ _
    c.merge_optional_message.result c.merge_optional_message.ensures.err

pub returns-in-13-clause-ok : goal.returns-in-13-clause-ok
returns-in-13-clause-ok c =
    arm_ok report-struct.takes report_origin-struct.takes 13 _
    (sym c.field_number.ensures.number ∙ c.in-13.is) _ _ _ _
    (λ charge p h. ((((h, refl), refl), refl), refl)) _ _ _ _ _
    c.merge.result c.merge.ensures.ok

pub returns-in-13-clause-err : goal.returns-in-13-clause-err
returns-in-13-clause-err c =
    arm_refused report-struct.takes report_origin-struct.takes 13 _
    (sym c.field_number.ensures.number ∙ c.in-13.is) _ _
    (λ charge z p h. (z.0.1.0.1, h.0.0.0.0)) _ _ _
    c.merge.result c.merge.ensures.err

pub returns-in-14-clause-ok : goal.returns-in-14-clause-ok
returns-in-14-clause-ok c =
    arm_ok report-struct.takes report_origin-struct.takes 14 _
    (sym c.field_number.ensures.number ∙ c.in-14.is) _ _ _ _
    (λ charge p h. ((((h, refl), refl), refl), refl)) _ _ _ _ _
    (c.merge-in-14).result (c.merge-in-14).ensures.ok

pub returns-in-14-clause-err : goal.returns-in-14-clause-err
returns-in-14-clause-err c =
    arm_refused report-struct.takes report_origin-struct.takes 14 _
    (sym c.field_number.ensures.number ∙ c.in-14.is) _ _
    (λ charge z p h. (z.0.1.0.1, h.0.0.0.0)) _ _ _
    (c.merge-in-14).result (c.merge-in-14).ensures.err

pub returns-in-16-clause-ok : goal.returns-in-16-clause-ok
returns-in-16-clause-ok c =
    arm_ok report-struct.takes report_origin-struct.takes 16 _
    (sym c.field_number.ensures.number ∙ c.in-16.is) _ _ _ _
    (λ charge p h. ((((h, refl), refl), refl), refl)) _ _ _ _ _
    (c.merge-in-16).result (c.merge-in-16).ensures.ok

pub returns-in-16-clause-err : goal.returns-in-16-clause-err
returns-in-16-clause-err c =
    arm_refused report-struct.takes report_origin-struct.takes 16 _
    (sym c.field_number.ensures.number ∙ c.in-16.is) _ _
    (λ charge z p h. (z.0.1.0.1, h.0.0.0.0)) _ _ _
    (c.merge-in-16).result (c.merge-in-16).ensures.err

pub returns-in-15-clause-ok : goal.returns-in-15-clause-ok
returns-in-15-clause-ok c =
    arm_ok report-struct.takes report-type_-kind.kind.takes 15 _
    (sym c.field_number.ensures.number ∙ c.in-15.is) _ _ _ _
    (λ charge p h. (((h, refl), refl), refl)) _ _ _ _ _
    (c.merge_value-in-15).result ((c.merge_value-in-15).ensures.ok _)

pub returns-in-15-clause-err : goal.returns-in-15-clause-err
returns-in-15-clause-err c =
    arm_refused report-struct.takes report-type_-kind.kind.takes 15 _
    (sym c.field_number.ensures.number ∙ c.in-15.is) _ _
    (λ charge z p h. (z.0.1.1, h.0.0.0)) _ _ _
    (c.merge_value-in-15).result ((c.merge_value-in-15).ensures.err _)

pub returns-in_default-clause-ok : goal.returns-in_default-clause-ok
returns-in_default-clause-ok c =
    let n = tag_number c.args.tag in
    arm_ok report-struct.takes passes n n refl _ _ _ _
    (λ charge p h. to_rest report-struct_known.owns report-struct_known.takes passes n
    (λ p. neither _ _ (neither _ _
    (neither _ _ (neither _ _ (neither _ _ (neither _ _ (unlike n 1 (search rules))
    (unlike n 2 (search rules)))
    (neither _ _ (unlike n 3 (search rules))
    (unlike n 4 (search rules))))
    (neither _ _ (neither _ _ (unlike n 5 (search rules))
    (unlike n 6 (search rules)))
    (neither _ _ (unlike n 7 (search rules))
    (unlike n 8 (search rules)))))
    (unlike n 9 (search rules)))
    (neither _ _ (unlike n 10 (search rules))
    (unlike n 11 (search rules))))
    (neither _ _ (neither _ _ (unlike n 12 (search rules))
    (neither _ _ (neither _ _ (unlike n 13 (search rules))
    (unlike n 14 (search rules)))
    (unlike n 16 (search rules))))
    (unlike n 15 (search rules))))
    _ charge _ p h)
    _ _ _ _ _ c.pass_by.result c.pass_by.ensures.ok

pub returns-in_default-clause-err : goal.returns-in_default-clause-err
returns-in_default-clause-err c =
    let n = tag_number c.args.tag in
    rest_refused report-struct_known.owns report-struct_known.takes passes n
    (λ p. neither _ _ (neither _ _
    (neither _ _ (neither _ _ (neither _ _ (neither _ _ (unlike n 1 (search rules))
    (unlike n 2 (search rules)))
    (neither _ _ (unlike n 3 (search rules))
    (unlike n 4 (search rules))))
    (neither _ _ (neither _ _ (unlike n 5 (search rules))
    (unlike n 6 (search rules)))
    (neither _ _ (unlike n 7 (search rules))
    (unlike n 8 (search rules)))))
    (unlike n 9 (search rules)))
    (neither _ _ (unlike n 10 (search rules))
    (unlike n 11 (search rules))))
    (neither _ _ (neither _ _ (unlike n 12 (search rules))
    (neither _ _ (neither _ _ (unlike n 13 (search rules))
    (unlike n 14 (search rules)))
    (unlike n 16 (search rules))))
    (unlike n 15 (search rules))))
    _ _ _ _ c.pass_by.result c.pass_by.ensures.err
