use Rattle.std.proofs.Common.{refl, rules}
use Rattle.std.proofs.lemmas.Result.{err_from_is_err_and}
use Rattle.wire_codec.specs.TagView.{tag_number}
use Rattle.wire_fields.specs.Arms.{anew_untaken, arm_err}
use Rattle.wire_readings.specs.VisitOutcome.{is_done-of-visit_outcome-as}
use Rattle.wire_readings.specs.VisitOutcome.{is_done-of-visit_outcome-kind, visit_outcome-kind}
use Rattle.wire_readings.specs.VisitOutcome.{visit_outcome-of}
use Rattle.wire_readings.proofs.visit_outcome.VisitOutcomeKindKind.merge.Goals as goal

pub returns-in-Some-IsDone-variants-clause-err :
    goal.returns-in-Some-IsDone-variants-clause-err
returns-in-Some-IsDone-variants-clause-err g c =
    let n = tag_number c.args.tag in
    let one = c.in-Some-IsDone-variants in
    rw one.is (arm_err visit_outcome-kind.takes
    is_done-of-visit_outcome-kind.takes n n
    refl _ _
    (λ charge z p h. (h.0, h.1)) _ _ _
    c.variants-merge.result c.variants-merge.ensures.err)

pub returns-clause-err : goal.returns-clause-err
returns-clause-err g c =
    let n = tag_number c.args.tag in
    let m = visit_outcome-of c.args.held.now in
    let r = c.variants-from_residual in
    let p = err_from_is_err_and r.result r.ensures.1 in
    rw (p.1, p.2) (λ other. anew_untaken visit_outcome-kind.takes
    is_done-of-visit_outcome-kind is_done-of-visit_outcome-as _ n n
    refl m (search rules)
    (λ charge z p h. h) _ _ _ (c.in_Break-variants-variants.ensures.err other))
