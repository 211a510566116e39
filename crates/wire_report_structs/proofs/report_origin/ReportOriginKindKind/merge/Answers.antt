use Rattle.std.proofs.Common.{refl, rules, sym, ◌∙◌}
use Rattle.std.proofs.lemmas.Result.{err_from_is_err_and}
use Rattle.wire_codec.specs.TagView.{tag_number}
use Rattle.wire_fields.specs.Arms.{anew_untaken, arm_err, from_last, last_err, neither, unlike}
use Rattle.wire_report_structs.specs.ReportOrigin.{device-of-report_origin-as}
use Rattle.wire_report_structs.specs.ReportOrigin.{device-of-report_origin-kind}
use Rattle.wire_report_structs.specs.ReportOrigin.{file-of-report_origin-as}
use Rattle.wire_report_structs.specs.ReportOrigin.{file-of-report_origin-kind, report_origin-front}
use Rattle.wire_report_structs.specs.ReportOrigin.{report_origin-kind, report_origin-of}
use Rattle.wire_report_structs.specs.ReportOrigin.{sample-of-report_origin}
use Rattle.wire_report_structs.specs.ReportOrigin.{sample-of-report_origin-as}
use Rattle.wire_report_structs.specs.ReportOrigin.{sample-of-report_origin-kind}
use Rattle.wire_report_structs.proofs.report_origin.ReportOriginKindKind.merge.Goals as goal

pub returns-in-Some-File-variants-clause-err :
    goal.returns-in-Some-File-variants-clause-err
returns-in-Some-File-variants-clause-err g c =
    let n = tag_number c.args.tag in
    let one = c.in-Some-File-variants in
    rw (one.is, one.field-0-is) (arm_err report_origin-kind.takes
    file-of-report_origin-kind.takes 13 n
    (sym c.variants-field_number.ensures.number ∙ c.in-13.is) _ _
    (λ charge z p h. (h.0, h.1)) _ _ _
    c.variants-merge.result c.variants-merge.ensures.err)

pub returns-in-13-clause-err : goal.returns-in-13-clause-err
returns-in-13-clause-err g c =
    let n = tag_number c.args.tag in
    let m = report_origin-of c.args.held.now in
    let r = c.variants-from_residual in
    let p = err_from_is_err_and r.result r.ensures.1 in
    rw (p.1, p.2) (λ other. anew_untaken report_origin-kind.takes
    file-of-report_origin-kind file-of-report_origin-as _ 13 n
    (sym c.variants-field_number.ensures.number ∙ c.in-13.is) m (search rules)
    (λ charge z p h. h) _ _ _ ((c.in_Break-variants-variants-in-13).ensures.err other))

pub returns-in-Some-Device-variants-clause-err :
    goal.returns-in-Some-Device-variants-clause-err
returns-in-Some-Device-variants-clause-err g c =
    let n = tag_number c.args.tag in
    let one = c.in-Some-Device-variants in
    rw (one.is, one.field-0-is) (arm_err report_origin-kind.takes
    device-of-report_origin-kind.takes 14 n
    (sym c.variants-field_number.ensures.number ∙ c.in-14.is) _ _
    (λ charge z p h. (h.0, h.1)) _ _ _
    (c.variants-merge-in-14).result (c.variants-merge-in-14).ensures.err)

pub returns-in-14-clause-err : goal.returns-in-14-clause-err
returns-in-14-clause-err g c =
    let n = tag_number c.args.tag in
    let m = report_origin-of c.args.held.now in
    let r = c.variants-from_residual-in-14 in
    let p = err_from_is_err_and r.result r.ensures.1 in
    rw (p.1, p.2) (λ other. anew_untaken report_origin-kind.takes
    device-of-report_origin-kind device-of-report_origin-as _ 14 n
    (sym c.variants-field_number.ensures.number ∙ c.in-14.is) m (search rules)
    (λ charge z p h. h) _ _ _ ((c.in_Break-variants-variants-in-14).ensures.err other))

pub returns-in-Some-Sample-variants-clause-err :
    goal.returns-in-Some-Sample-variants-clause-err
returns-in-Some-Sample-variants-clause-err g c =
    let n = tag_number c.args.tag in
    let one = c.in-Some-Sample-variants in
    rw (one.is, one.field-0-is) (last_err report_origin-front.owns report_origin-front.takes
    sample-of-report_origin.takes n
    (λ p. neither _ _ (unlike n 13 (search rules)) (unlike n 14 (search rules)))
    sample-of-report_origin-kind.takes _ _
    (λ charge z p h. (h.0, h.1)) _ _ _
    c.variants-merge-2.result c.variants-merge-2.ensures.err)

pub returns-clause-err : goal.returns-clause-err
returns-clause-err g c =
    let n = tag_number c.args.tag in
    let m = report_origin-of c.args.held.now in
    let r = c.variants-from_residual-2 in
    let p = err_from_is_err_and r.result r.ensures.1 in
    rw (p.1, p.2) (λ other. anew_untaken report_origin-kind.takes
    sample-of-report_origin-kind sample-of-report_origin-as _ n n
    refl m (search rules)
    (λ charge z p h. from_last report_origin-front.owns report_origin-front.takes
    sample-of-report_origin.takes n
    (λ p. neither _ _ (unlike n 13 (search rules)) (unlike n 14 (search rules)))
    m z charge p h) _ _ _ (c.in_Break-variants-variants.ensures.err other))
