use Rattle.std.proofs.Common.{refl, rules, sym, ◌∙◌}
use Rattle.std.proofs.lemmas.Result.{err_from_is_err_and}
use Rattle.wire_codec.specs.TagView.{tag_number}
use Rattle.wire_fields.specs.Arms.{anew_untaken, arm_err, from_last, last_err, neither, unlike}
use Rattle.wire_visits.specs.SurveyLast.{grade-of-survey_last, grade-of-survey_last-as}
use Rattle.wire_visits.specs.SurveyLast.{grade-of-survey_last-kind, silence-of-survey_last-as}
use Rattle.wire_visits.specs.SurveyLast.{silence-of-survey_last-kind, survey_last-front}
use Rattle.wire_visits.specs.SurveyLast.{survey_last-kind, survey_last-of, word-of-survey_last-as}
use Rattle.wire_visits.specs.SurveyLast.{word-of-survey_last-kind}
use Rattle.wire_visits.proofs.survey_last.SurveyLastKindKind.merge.Goals as goal

pub returns-in-Some-Word-variants-clause-err :
    goal.returns-in-Some-Word-variants-clause-err
returns-in-Some-Word-variants-clause-err g c =
    let n = tag_number c.args.tag in
    let one = c.in-Some-Word-variants in
    rw (one.is, one.field-0-is) (arm_err survey_last-kind.takes
    word-of-survey_last-kind.takes 8 n
    (sym c.variants-field_number.ensures.number ∙ c.in-8.is) _ _
    (λ charge z p h. (h.0, h.1)) _ _ _
    c.variants-merge.result c.variants-merge.ensures.err)

pub returns-in-8-clause-err : goal.returns-in-8-clause-err
returns-in-8-clause-err g c =
    let n = tag_number c.args.tag in
    let m = survey_last-of c.args.held.now in
    let r = c.variants-from_residual in
    let p = err_from_is_err_and r.result r.ensures.1 in
    rw (p.1, p.2) (λ other. anew_untaken survey_last-kind.takes
    word-of-survey_last-kind word-of-survey_last-as _ 8 n
    (sym c.variants-field_number.ensures.number ∙ c.in-8.is) m (search rules)
    (λ charge z p h. h) _ _ _ ((c.in_Break-variants-variants-in-8).ensures.err other))

pub returns-in-Some-Silence-variants-clause-err :
    goal.returns-in-Some-Silence-variants-clause-err
returns-in-Some-Silence-variants-clause-err g c =
    let n = tag_number c.args.tag in
    let one = c.in-Some-Silence-variants in
    rw (one.is, one.field-0-is) (arm_err survey_last-kind.takes
    silence-of-survey_last-kind.takes 9 n
    (sym c.variants-field_number.ensures.number ∙ c.in-9.is) _ _
    (λ charge z p h. (h.0, h.1)) _ _ _
    (c.variants-merge-in-9).result (c.variants-merge-in-9).ensures.err)

pub returns-in-9-clause-err : goal.returns-in-9-clause-err
returns-in-9-clause-err g c =
    let n = tag_number c.args.tag in
    let m = survey_last-of c.args.held.now in
    let r = c.variants-from_residual-in-9 in
    let p = err_from_is_err_and r.result r.ensures.1 in
    rw (p.1, p.2) (λ other. anew_untaken survey_last-kind.takes
    silence-of-survey_last-kind silence-of-survey_last-as _ 9 n
    (sym c.variants-field_number.ensures.number ∙ c.in-9.is) m (search rules)
    (λ charge z p h. h) _ _ _ ((c.in_Break-variants-variants-in-9).ensures.err other))

pub returns-in-Some-Grade-variants-clause-err :
    goal.returns-in-Some-Grade-variants-clause-err
returns-in-Some-Grade-variants-clause-err g c =
    let n = tag_number c.args.tag in
    let one = c.in-Some-Grade-variants in
    rw (one.is, one.field-0-is) (last_err survey_last-front.owns survey_last-front.takes
    grade-of-survey_last.takes n
    (λ p. neither _ _ (unlike n 8 (search rules)) (unlike n 9 (search rules)))
    grade-of-survey_last-kind.takes _ _
    (λ charge z p h. (h.0, h.1)) _ _ _
    c.variants-merge-2.result c.variants-merge-2.ensures.err)

pub returns-clause-err : goal.returns-clause-err
returns-clause-err g c =
    let n = tag_number c.args.tag in
    let m = survey_last-of c.args.held.now in
    let r = c.variants-from_residual-2 in
    let p = err_from_is_err_and r.result r.ensures.1 in
    rw (p.1, p.2) (λ other. anew_untaken survey_last-kind.takes
    grade-of-survey_last-kind grade-of-survey_last-as _ n n
    refl m (search rules)
    (λ charge z p h. from_last survey_last-front.owns survey_last-front.takes
    grade-of-survey_last.takes n
    (λ p. neither _ _ (unlike n 8 (search rules)) (unlike n 9 (search rules)))
    m z charge p h) _ _ _ (c.in_Break-variants-variants.ensures.err other))
