use Rattle.std.proofs.lemmas.Result.{err_from_is_err_and, on_ok_weaker}
use Rattle.wire_views.proofs.ClosedNumbers.{not_closed_each, each_kept, each_known}
use Rattle.wire_views.proofs.SpanLaws.{whole_payload}
use Rattle.wire_views.proofs.closed_each.merge_closed_each.Goals as goal

pub returns-in_err-merge_closed_each-clause-err : goal.returns-in_err-merge_closed_each-clause-err
returns-in_err-merge_closed_each-clause-err g c =
    let p = err_from_is_err_and c.from_residual.result c.from_residual.ensures.1 in
    rw (p.1, p.2) (λ other. not_closed_each g.E.Enumeration.of_number _ _ _ _ _ _
    (rw c.new-left.ensures at c.in_err-merge_closed_each.ensures.err other))

pub returns-then-is_empty-clause-ok : goal.returns-then-is_empty-clause-ok
returns-then-is_empty-clause-ok g c =
    each_known g.E.Enumeration.of_number _ _ _ _ _ _ _ _ _ _
    (rw c.new-left.ensures at c.in_ok-merge_closed_each.ensures.ok)
    (c.is_empty.ensures.0 c.if-is_empty.true)

pub returns-clause-ok : goal.returns-clause-ok
returns-clause-ok g c =
    let taken = rw c.new-left.ensures at c.in_ok-merge_closed_each.ensures.ok in
    on_ok_weaker c.keep_numbers.result (λ kept. each_kept g.E.Enumeration.of_number _ _ _ _ _ _ _
    _ _ _ taken _ _ c.field_number.ensures.number kept)
    (c.keep_numbers.ensures.ok taken.taken.step.0 (c.numbers_in-numbers.ensures taken.taken.payload
    taken.taken.step.0 (whole_payload _ _ _ _ _ _ taken.taken.read.read c.front_of.ensures)
    taken.taken.step.1))
