use Rattle.std.proofs.lemmas.Result.{err_from_is_err_and}
use Rattle.wire_visits.specs.Way.{way-of}
use Rattle.wire_visits.specs.JourneyBack.{by-of-journey_back-from}
use Rattle.wire_fields.specs.ClosedOneof.{closing_untaken}
use Rattle.wire_visits.proofs.journey_back.set_or_keep_by.Goals as goal

pub returns-in_err-merge_closed-clause-err : goal.returns-in_err-merge_closed-clause-err
returns-in_err-merge_closed-clause-err g c =
    let p = err_from_is_err_and c.from_residual.result c.from_residual.ensures.1 in
    rw (p.1, p.2) (λ other. closing_untaken way-of by-of-journey_back-from _ _ _ _ _ _
    (c.in_err-merge_closed.ensures.err other))
