use Rattle.std.proofs.Common.{refl, rules, sym, ◌∙◌}
use Rattle.std.proofs.lemmas.Result.{err_from_is_err_and}
use Rattle.wire_codec.specs.TagView.{tag_number}
use Rattle.wire_fields.specs.Arms.{anew_untaken, arm_err, from_last, last_err, unlike}
use Rattle.wire_trips.specs.TripPaid.{same_means-of-trip_paid, same_means-of-trip_paid-as}
use Rattle.wire_trips.specs.TripPaid.{same_means-of-trip_paid-kind, ticket_number-of-trip_paid-as}
use Rattle.wire_trips.specs.TripPaid.{ticket_number-of-trip_paid-kind, trip_paid-front}
use Rattle.wire_trips.specs.TripPaid.{trip_paid-kind, trip_paid-of}
use Rattle.wire_trips.proofs.trip_paid.TripPaidKindKind.merge.Goals as goal

pub returns-in-Some-TicketNumber-variants-clause-err :
    goal.returns-in-Some-TicketNumber-variants-clause-err
returns-in-Some-TicketNumber-variants-clause-err g c =
    let n = tag_number c.args.tag in
    let one = c.in-Some-TicketNumber-variants in
    rw (one.is, one.field-0-is) (arm_err trip_paid-kind.takes
    ticket_number-of-trip_paid-kind.takes 6 n
    (sym c.variants-field_number.ensures.number ∙ c.in-6.is) _ _
    (λ charge z p h. (h.0, h.1)) _ _ _
    c.variants-merge.result c.variants-merge.ensures.err)

pub returns-in-6-clause-err : goal.returns-in-6-clause-err
returns-in-6-clause-err g c =
    let n = tag_number c.args.tag in
    let m = trip_paid-of c.args.held.now in
    let r = c.variants-from_residual in
    let p = err_from_is_err_and r.result r.ensures.1 in
    rw (p.1, p.2) (λ other. anew_untaken trip_paid-kind.takes
    ticket_number-of-trip_paid-kind ticket_number-of-trip_paid-as _ 6 n
    (sym c.variants-field_number.ensures.number ∙ c.in-6.is) m (search rules)
    (λ charge z p h. h) _ _ _ ((c.in_Break-variants-variants-in-6).ensures.err other))

pub returns-in-Some-SameMeans-variants-clause-err :
    goal.returns-in-Some-SameMeans-variants-clause-err
returns-in-Some-SameMeans-variants-clause-err g c =
    let n = tag_number c.args.tag in
    let one = c.in-Some-SameMeans-variants in
    rw (one.is, one.field-0-is) (last_err trip_paid-front.owns trip_paid-front.takes
    same_means-of-trip_paid.takes n
    (λ p. unlike n 6 (search rules))
    same_means-of-trip_paid-kind.takes _ _
    (λ charge z p h. (h.0, h.1)) _ _ _
    c.variants-merge-2.result c.variants-merge-2.ensures.err)

pub returns-clause-err : goal.returns-clause-err
returns-clause-err g c =
    let n = tag_number c.args.tag in
    let m = trip_paid-of c.args.held.now in
    let r = c.variants-from_residual-2 in
    let p = err_from_is_err_and r.result r.ensures.1 in
    rw (p.1, p.2) (λ other. anew_untaken trip_paid-kind.takes
    same_means-of-trip_paid-kind same_means-of-trip_paid-as _ n n
    refl m (search rules)
    (λ charge z p h. from_last trip_paid-front.owns trip_paid-front.takes
    same_means-of-trip_paid.takes n
    (λ p. unlike n 6 (search rules))
    m z charge p h) _ _ _ (c.in_Break-variants-variants.ensures.err other))
