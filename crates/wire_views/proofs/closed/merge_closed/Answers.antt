use Rattle.std.proofs.lemmas.Result.{err_from_is_err_and}
use Rattle.wire_views.proofs.ClosedSpans.{not_closed, not_true, number_kept}
use Rattle.wire_views.proofs.SpanLaws.{whole_payload, span_kept}
use Rattle.wire_views.proofs.closed.merge_closed.Goals as goal

pub returns-in_err-merge_closed-clause-err : goal.returns-in_err-merge_closed-clause-err
returns-in_err-merge_closed-clause-err g c =
    let p = err_from_is_err_and c.from_residual.result c.from_residual.ensures.1 in
    rw (p.1, p.2) (λ other. not_closed g.E.Enumeration.of_number _ _ _ _ _ _
    (rw c.new-left.ensures at c.in_err-merge_closed.ensures.err other))

pub returns-clause-ok : goal.returns-clause-ok
returns-clause-ok g c =
    let taken = rw c.new-left.ensures at c.in_ok-merge_closed.ensures.ok in
    number_kept g.E.Enumeration.of_number _ _ _ _ _ _ _ _ _ _ _
    (λ empty. not_true _ c.if-is_empty.false (c.is_empty.ensures.1 empty)) taken
    (span_kept _ _ _ _ (whole_payload _ _ _ _ _ _ taken.taken.read.read c.front_of-payload.ensures)
    c.in_ok-push.ensures.items)
