use Rattle.std.proofs.Common.{refl, rules, sym, ◌∙◌}
use Rattle.std.proofs.lemmas.Result.{err_from_is_err_and}
use Rattle.wire_codec.specs.TagView.{tag_number}
use Rattle.wire_fields.specs.Arms.{anew_untaken, arm_err, from_last, last_err, unlike}
use Rattle.wire_visits.specs.JourneyBack.{by-of-journey_back, by-of-journey_back-as}
use Rattle.wire_visits.specs.JourneyBack.{by-of-journey_back-kind, journey_back-front}
use Rattle.wire_visits.specs.JourneyBack.{journey_back-kind, journey_back-of}
use Rattle.wire_visits.specs.JourneyBack.{note-of-journey_back-as, note-of-journey_back-kind}
use Rattle.wire_visits.proofs.journey_back.JourneyBackKindKind.merge.Goals as goal

pub returns-in-Some-Note-variants-clause-err :
    goal.returns-in-Some-Note-variants-clause-err
returns-in-Some-Note-variants-clause-err g c =
    let n = tag_number c.args.tag in
    let one = c.in-Some-Note-variants in
    rw (one.is, one.field-0-is) (arm_err journey_back-kind.takes
    note-of-journey_back-kind.takes 4 n
    (sym c.variants-field_number.ensures.number ∙ c.in-4.is) _ _
    (λ charge z p h. (h.0, h.1)) _ _ _
    c.variants-merge.result c.variants-merge.ensures.err)

pub returns-in-4-clause-err : goal.returns-in-4-clause-err
returns-in-4-clause-err g c =
    let n = tag_number c.args.tag in
    let m = journey_back-of c.args.held.now in
    let r = c.variants-from_residual in
    let p = err_from_is_err_and r.result r.ensures.1 in
    rw (p.1, p.2) (λ other. anew_untaken journey_back-kind.takes
    note-of-journey_back-kind note-of-journey_back-as _ 4 n
    (sym c.variants-field_number.ensures.number ∙ c.in-4.is) m (search rules)
    (λ charge z p h. h) _ _ _ ((c.in_Break-variants-variants-in-4).ensures.err other))

pub returns-in-Some-By-variants-clause-err :
    goal.returns-in-Some-By-variants-clause-err
returns-in-Some-By-variants-clause-err g c =
    let n = tag_number c.args.tag in
    let one = c.in-Some-By-variants in
    rw (one.is, one.field-0-is) (last_err journey_back-front.owns journey_back-front.takes
    by-of-journey_back.takes n
    (λ p. unlike n 4 (search rules))
    by-of-journey_back-kind.takes _ _
    (λ charge z p h. (h.0, h.1)) _ _ _
    c.variants-merge-2.result c.variants-merge-2.ensures.err)

pub returns-clause-err : goal.returns-clause-err
returns-clause-err g c =
    let n = tag_number c.args.tag in
    let m = journey_back-of c.args.held.now in
    let r = c.variants-from_residual-2 in
    let p = err_from_is_err_and r.result r.ensures.1 in
    rw (p.1, p.2) (λ other. anew_untaken journey_back-kind.takes
    by-of-journey_back-kind by-of-journey_back-as _ n n
    refl m (search rules)
    (λ charge z p h. from_last journey_back-front.owns journey_back-front.takes
    by-of-journey_back.takes n
    (λ p. unlike n 4 (search rules))
    m z charge p h) _ _ _ (c.in_Break-variants-variants.ensures.err other))
