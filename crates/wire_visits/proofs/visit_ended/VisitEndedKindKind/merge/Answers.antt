use Rattle.std.proofs.Common.{refl, rules, sym, ◌∙◌}
use Rattle.std.proofs.lemmas.Result.{err_from_is_err_and}
use Rattle.wire_codec.specs.TagView.{tag_number}
use Rattle.wire_fields.specs.Arms.{anew_untaken, arm_err, from_last, last_err, neither, unlike}
use Rattle.wire_visits.specs.VisitEnded.{bought-of-visit_ended-as, bought-of-visit_ended-kind}
use Rattle.wire_visits.specs.VisitEnded.{bounced-of-visit_ended, bounced-of-visit_ended-as}
use Rattle.wire_visits.specs.VisitEnded.{bounced-of-visit_ended-kind, idle-of-visit_ended-as}
use Rattle.wire_visits.specs.VisitEnded.{idle-of-visit_ended-kind, left-of-visit_ended-as}
use Rattle.wire_visits.specs.VisitEnded.{left-of-visit_ended-kind, visit_ended-front}
use Rattle.wire_visits.specs.VisitEnded.{visit_ended-kind, visit_ended-of}
use Rattle.wire_visits.proofs.visit_ended.VisitEndedKindKind.merge.Goals as goal

pub returns-in-Some-Left-variants-clause-err :
    goal.returns-in-Some-Left-variants-clause-err
returns-in-Some-Left-variants-clause-err g c =
    let n = tag_number c.args.tag in
    let one = c.in-Some-Left-variants in
    rw (one.is, one.field-0-is) (arm_err visit_ended-kind.takes
    left-of-visit_ended-kind.takes 6 n
    (sym c.variants-field_number.ensures.number ∙ c.in-6.is) _ _
    (λ charge z p h. (h.0, h.1)) _ _ _
    c.variants-merge.result c.variants-merge.ensures.err)

pub returns-in-6-clause-err : goal.returns-in-6-clause-err
returns-in-6-clause-err g c =
    let n = tag_number c.args.tag in
    let m = visit_ended-of c.args.held.now in
    let r = c.variants-from_residual in
    let p = err_from_is_err_and r.result r.ensures.1 in
    rw (p.1, p.2) (λ other. anew_untaken visit_ended-kind.takes
    left-of-visit_ended-kind left-of-visit_ended-as _ 6 n
    (sym c.variants-field_number.ensures.number ∙ c.in-6.is) m (search rules)
    (λ charge z p h. h) _ _ _ ((c.in_Break-variants-variants-in-6).ensures.err other))

pub returns-in-Some-Bought-variants-clause-err :
    goal.returns-in-Some-Bought-variants-clause-err
returns-in-Some-Bought-variants-clause-err g c =
    let n = tag_number c.args.tag in
    let one = c.in-Some-Bought-variants in
    rw (one.is, one.field-0-is) (arm_err visit_ended-kind.takes
    bought-of-visit_ended-kind.takes 7 n
    (sym c.variants-field_number.ensures.number ∙ c.in-7.is) _ _
    (λ charge z p h. (h.0, h.1)) _ _ _
    (c.variants-merge-in-7).result (c.variants-merge-in-7).ensures.err)

pub returns-in-7-clause-err : goal.returns-in-7-clause-err
returns-in-7-clause-err g c =
    let n = tag_number c.args.tag in
    let m = visit_ended-of c.args.held.now in
    let r = c.variants-from_residual-in-7 in
    let p = err_from_is_err_and r.result r.ensures.1 in
    rw (p.1, p.2) (λ other. anew_untaken visit_ended-kind.takes
    bought-of-visit_ended-kind bought-of-visit_ended-as _ 7 n
    (sym c.variants-field_number.ensures.number ∙ c.in-7.is) m (search rules)
    (λ charge z p h. h) _ _ _ ((c.in_Break-variants-variants-in-7).ensures.err other))

pub returns-in-Some-Idle-variants-clause-err :
    goal.returns-in-Some-Idle-variants-clause-err
returns-in-Some-Idle-variants-clause-err g c =
    let n = tag_number c.args.tag in
    let one = c.in-Some-Idle-variants in
    rw (one.is, one.field-0-is) (arm_err visit_ended-kind.takes
    idle-of-visit_ended-kind.takes 8 n
    (sym c.variants-field_number.ensures.number ∙ c.in-8.is) _ _
    (λ charge z p h. (h.0, h.1)) _ _ _
    (c.variants-merge-in-8).result (c.variants-merge-in-8).ensures.err)

pub returns-in-8-clause-err : goal.returns-in-8-clause-err
returns-in-8-clause-err g c =
    let n = tag_number c.args.tag in
    let m = visit_ended-of c.args.held.now in
    let r = c.variants-from_residual-in-8 in
    let p = err_from_is_err_and r.result r.ensures.1 in
    rw (p.1, p.2) (λ other. anew_untaken visit_ended-kind.takes
    idle-of-visit_ended-kind idle-of-visit_ended-as _ 8 n
    (sym c.variants-field_number.ensures.number ∙ c.in-8.is) m (search rules)
    (λ charge z p h. h) _ _ _ ((c.in_Break-variants-variants-in-8).ensures.err other))

pub returns-in-Some-Bounced-variants-clause-err :
    goal.returns-in-Some-Bounced-variants-clause-err
returns-in-Some-Bounced-variants-clause-err g c =
    let n = tag_number c.args.tag in
    let one = c.in-Some-Bounced-variants in
    rw (one.is, one.field-0-is) (last_err visit_ended-front.owns visit_ended-front.takes
    bounced-of-visit_ended.takes n
    (λ p. neither _ _ (neither _ _ (unlike n 6 (search rules)) (unlike n 7 (search rules))) (unlike n 8 (search rules)))
    bounced-of-visit_ended-kind.takes _ _
    (λ charge z p h. (h.0, h.1)) _ _ _
    c.variants-merge-2.result c.variants-merge-2.ensures.err)

pub returns-clause-err : goal.returns-clause-err
returns-clause-err g c =
    let n = tag_number c.args.tag in
    let m = visit_ended-of c.args.held.now in
    let r = c.variants-from_residual-2 in
    let p = err_from_is_err_and r.result r.ensures.1 in
    rw (p.1, p.2) (λ other. anew_untaken visit_ended-kind.takes
    bounced-of-visit_ended-kind bounced-of-visit_ended-as _ n n
    refl m (search rules)
    (λ charge z p h. from_last visit_ended-front.owns visit_ended-front.takes
    bounced-of-visit_ended.takes n
    (λ p. neither _ _ (neither _ _ (unlike n 6 (search rules)) (unlike n 7 (search rules))) (unlike n 8 (search rules)))
    m z charge p h) _ _ _ (c.in_Break-variants-variants.ensures.err other))
