use Rattle.std.proofs.Common.{refl, rules, sym, ◌∙◌}
use Rattle.std.proofs.lemmas.Result.{err_from_is_err_and}
use Rattle.wire_codec.specs.TagView.{tag_number}
use Rattle.wire_fields.specs.Arms.{anew_untaken, arm_err, from_last, last_err, neither, unlike}
use Rattle.wire_readings.specs.VisitCause.{complaint-of-visit_cause-as}
use Rattle.wire_readings.specs.VisitCause.{complaint-of-visit_cause-kind, limit-of-visit_cause-as}
use Rattle.wire_readings.specs.VisitCause.{limit-of-visit_cause-kind, order-of-visit_cause-as}
use Rattle.wire_readings.specs.VisitCause.{order-of-visit_cause-kind, reading-of-visit_cause-as}
use Rattle.wire_readings.specs.VisitCause.{reading-of-visit_cause-kind, shift-of-visit_cause}
use Rattle.wire_readings.specs.VisitCause.{shift-of-visit_cause-as, shift-of-visit_cause-kind}
use Rattle.wire_readings.specs.VisitCause.{state-of-visit_cause-as, state-of-visit_cause-kind}
use Rattle.wire_readings.specs.VisitCause.{visit_cause-front, visit_cause-kind, visit_cause-of}
use Rattle.wire_readings.proofs.visit_cause.VisitCauseKindKind.merge.Goals as goal

pub returns-in-Some-State_-variants-clause-err :
    goal.returns-in-Some-State_-variants-clause-err
returns-in-Some-State_-variants-clause-err g c =
    let n = tag_number c.args.tag in
    let one = c.in-Some-State_-variants in
    rw (one.is, one.field-0-is) (arm_err visit_cause-kind.takes
    state-of-visit_cause-kind.takes 2 n
    (sym c.variants-field_number.ensures.number ∙ c.in-2.is) _ _
    (λ charge z p h. (h.0, h.1)) _ _ _
    c.variants-merge.result c.variants-merge.ensures.err)

pub returns-in-2-clause-err : goal.returns-in-2-clause-err
returns-in-2-clause-err g c =
    let n = tag_number c.args.tag in
    let m = visit_cause-of c.args.held.now in
    let r = c.variants-from_residual in
    let p = err_from_is_err_and r.result r.ensures.1 in
    rw (p.1, p.2) (λ other. anew_untaken visit_cause-kind.takes
    state-of-visit_cause-kind state-of-visit_cause-as _ 2 n
    (sym c.variants-field_number.ensures.number ∙ c.in-2.is) m (search rules)
    (λ charge z p h. h) _ _ _ ((c.in_Break-variants-variants-in-2).ensures.err other))

pub returns-in-Some-Limit-variants-clause-err :
    goal.returns-in-Some-Limit-variants-clause-err
returns-in-Some-Limit-variants-clause-err g c =
    let n = tag_number c.args.tag in
    let one = c.in-Some-Limit-variants in
    rw (one.is, one.field-0-is) (arm_err visit_cause-kind.takes
    limit-of-visit_cause-kind.takes 3 n
    (sym c.variants-field_number.ensures.number ∙ c.in-3.is) _ _
    (λ charge z p h. (h.0, h.1)) _ _ _
    (c.variants-merge-in-3).result (c.variants-merge-in-3).ensures.err)

pub returns-in-3-clause-err : goal.returns-in-3-clause-err
returns-in-3-clause-err g c =
    let n = tag_number c.args.tag in
    let m = visit_cause-of c.args.held.now in
    let r = c.variants-from_residual-in-3 in
    let p = err_from_is_err_and r.result r.ensures.1 in
    rw (p.1, p.2) (λ other. anew_untaken visit_cause-kind.takes
    limit-of-visit_cause-kind limit-of-visit_cause-as _ 3 n
    (sym c.variants-field_number.ensures.number ∙ c.in-3.is) m (search rules)
    (λ charge z p h. h) _ _ _ ((c.in_Break-variants-variants-in-3).ensures.err other))

pub returns-in-Some-Complaint-variants-clause-err :
    goal.returns-in-Some-Complaint-variants-clause-err
returns-in-Some-Complaint-variants-clause-err g c =
    let n = tag_number c.args.tag in
    let one = c.in-Some-Complaint-variants in
    rw (one.is, one.field-0-is) (arm_err visit_cause-kind.takes
    complaint-of-visit_cause-kind.takes 4 n
    (sym c.variants-field_number.ensures.number ∙ c.in-4.is) _ _
    (λ charge z p h. (h.0, h.1)) _ _ _
    (c.variants-merge-in-4).result (c.variants-merge-in-4).ensures.err)

pub returns-in-4-clause-err : goal.returns-in-4-clause-err
returns-in-4-clause-err g c =
    let n = tag_number c.args.tag in
    let m = visit_cause-of c.args.held.now in
    let r = c.variants-from_residual-in-4 in
    let p = err_from_is_err_and r.result r.ensures.1 in
    rw (p.1, p.2) (λ other. anew_untaken visit_cause-kind.takes
    complaint-of-visit_cause-kind complaint-of-visit_cause-as _ 4 n
    (sym c.variants-field_number.ensures.number ∙ c.in-4.is) m (search rules)
    (λ charge z p h. h) _ _ _ ((c.in_Break-variants-variants-in-4).ensures.err other))

pub returns-in-Some-Reading-variants-clause-err :
    goal.returns-in-Some-Reading-variants-clause-err
returns-in-Some-Reading-variants-clause-err g c =
    let n = tag_number c.args.tag in
    let one = c.in-Some-Reading-variants in
    rw (one.is, one.field-0-is) (arm_err visit_cause-kind.takes
    reading-of-visit_cause-kind.takes 6 n
    (sym c.variants-field_number.ensures.number ∙ c.in-6.is) _ _
    (λ charge z p h. (h.0, h.1)) _ _ _
    (c.variants-merge-in-6).result (c.variants-merge-in-6).ensures.err)

pub returns-in-6-clause-err : goal.returns-in-6-clause-err
returns-in-6-clause-err g c =
    let n = tag_number c.args.tag in
    let m = visit_cause-of c.args.held.now in
    let r = c.variants-from_residual-in-6 in
    let p = err_from_is_err_and r.result r.ensures.1 in
    rw (p.1, p.2) (λ other. anew_untaken visit_cause-kind.takes
    reading-of-visit_cause-kind reading-of-visit_cause-as _ 6 n
    (sym c.variants-field_number.ensures.number ∙ c.in-6.is) m (search rules)
    (λ charge z p h. h) _ _ _ ((c.in_Break-variants-variants-in-6).ensures.err other))

pub returns-in-Some-Order-variants-clause-err :
    goal.returns-in-Some-Order-variants-clause-err
returns-in-Some-Order-variants-clause-err g c =
    let n = tag_number c.args.tag in
    let one = c.in-Some-Order-variants in
    rw (one.is, one.field-0-is) (arm_err visit_cause-kind.takes
    order-of-visit_cause-kind.takes 8 n
    (sym c.variants-field_number.ensures.number ∙ c.in-8.is) _ _
    (λ charge z p h. (h.0, h.1)) _ _ _
    (c.variants-merge-in-8).result (c.variants-merge-in-8).ensures.err)

pub returns-in-8-clause-err : goal.returns-in-8-clause-err
returns-in-8-clause-err g c =
    let n = tag_number c.args.tag in
    let m = visit_cause-of c.args.held.now in
    let r = c.variants-from_residual-in-8 in
    let p = err_from_is_err_and r.result r.ensures.1 in
    rw (p.1, p.2) (λ other. anew_untaken visit_cause-kind.takes
    order-of-visit_cause-kind order-of-visit_cause-as _ 8 n
    (sym c.variants-field_number.ensures.number ∙ c.in-8.is) m (search rules)
    (λ charge z p h. h) _ _ _ ((c.in_Break-variants-variants-in-8).ensures.err other))

pub returns-in-Some-Shift-variants-clause-err :
    goal.returns-in-Some-Shift-variants-clause-err
returns-in-Some-Shift-variants-clause-err g c =
    let n = tag_number c.args.tag in
    let one = c.in-Some-Shift-variants in
    rw (one.is, one.field-0-is) (last_err visit_cause-front.owns visit_cause-front.takes
    shift-of-visit_cause.takes n
    (λ p. neither _ _ (neither _ _ (neither _ _ (neither _ _ (unlike n 2 (search rules)) (unlike n 3 (search rules))) (unlike n 4 (search rules))) (unlike n 6 (search rules))) (unlike n 8 (search rules)))
    shift-of-visit_cause-kind.takes _ _
    (λ charge z p h. (h.0, h.1)) _ _ _
    c.variants-merge-2.result c.variants-merge-2.ensures.err)

pub returns-clause-err : goal.returns-clause-err
returns-clause-err g c =
    let n = tag_number c.args.tag in
    let m = visit_cause-of c.args.held.now in
    let r = c.variants-from_residual-2 in
    let p = err_from_is_err_and r.result r.ensures.1 in
    rw (p.1, p.2) (λ other. anew_untaken visit_cause-kind.takes
    shift-of-visit_cause-kind shift-of-visit_cause-as _ n n
    refl m (search rules)
    (λ charge z p h. from_last visit_cause-front.owns visit_cause-front.takes
    shift-of-visit_cause.takes n
    (λ p. neither _ _ (neither _ _ (neither _ _ (neither _ _ (unlike n 2 (search rules)) (unlike n 3 (search rules))) (unlike n 4 (search rules))) (unlike n 6 (search rules))) (unlike n 8 (search rules)))
    m z charge p h) _ _ _ (c.in_Break-variants-variants.ensures.err other))
