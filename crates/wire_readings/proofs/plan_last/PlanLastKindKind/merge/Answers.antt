use Rattle.std.proofs.Common.{refl, rules, sym, ◌∙◌}
use Rattle.std.proofs.lemmas.Result.{err_from_is_err_and}
use Rattle.wire_codec.specs.TagView.{tag_number}
use Rattle.wire_fields.specs.Arms.{anew_untaken, arm_err, from_last, last_err, unlike}
use Rattle.wire_readings.specs.PlanLast.{place-of-plan_last, place-of-plan_last-as}
use Rattle.wire_readings.specs.PlanLast.{place-of-plan_last-kind, plan_last-front, plan_last-kind}
use Rattle.wire_readings.specs.PlanLast.{plan_last-of, visit-of-plan_last-as}
use Rattle.wire_readings.specs.PlanLast.{visit-of-plan_last-kind}
use Rattle.wire_readings.proofs.plan_last.PlanLastKindKind.merge.Goals as goal

pub returns-in-Some-Visit-variants-clause-err :
    goal.returns-in-Some-Visit-variants-clause-err
returns-in-Some-Visit-variants-clause-err g c =
    let n = tag_number c.args.tag in
    let one = c.in-Some-Visit-variants in
    rw (one.is, one.field-0-is) (arm_err plan_last-kind.takes
    visit-of-plan_last-kind.takes 3 n
    (sym c.variants-field_number.ensures.number ∙ c.in-3.is) _ _
    (λ charge z p h. (h.0, h.1)) _ _ _
    c.variants-merge.result c.variants-merge.ensures.err)

pub returns-in-3-clause-err : goal.returns-in-3-clause-err
returns-in-3-clause-err g c =
    let n = tag_number c.args.tag in
    let m = plan_last-of c.args.held.now in
    let r = c.variants-from_residual in
    let p = err_from_is_err_and r.result r.ensures.1 in
    rw (p.1, p.2) (λ other. anew_untaken plan_last-kind.takes
    visit-of-plan_last-kind visit-of-plan_last-as _ 3 n
    (sym c.variants-field_number.ensures.number ∙ c.in-3.is) m (search rules)
    (λ charge z p h. h) _ _ _ ((c.in_Break-variants-variants-in-3).ensures.err other))

pub returns-in-Some-Place-variants-clause-err :
    goal.returns-in-Some-Place-variants-clause-err
returns-in-Some-Place-variants-clause-err g c =
    let n = tag_number c.args.tag in
    let one = c.in-Some-Place-variants in
    rw (one.is, one.field-0-is) (last_err plan_last-front.owns plan_last-front.takes
    place-of-plan_last.takes n
    (λ p. unlike n 3 (search rules))
    place-of-plan_last-kind.takes _ _
    (λ charge z p h. (h.0, h.1)) _ _ _
    c.variants-merge-2.result c.variants-merge-2.ensures.err)

pub returns-clause-err : goal.returns-clause-err
returns-clause-err g c =
    let n = tag_number c.args.tag in
    let m = plan_last-of c.args.held.now in
    let r = c.variants-from_residual-2 in
    let p = err_from_is_err_and r.result r.ensures.1 in
    rw (p.1, p.2) (λ other. anew_untaken plan_last-kind.takes
    place-of-plan_last-kind place-of-plan_last-as _ n n
    refl m (search rules)
    (λ charge z p h. from_last plan_last-front.owns plan_last-front.takes
    place-of-plan_last.takes n
    (λ p. unlike n 3 (search rules))
    m z charge p h) _ _ _ (c.in_Break-variants-variants.ensures.err other))
