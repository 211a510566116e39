use Rattle.std.proofs.Common.{◌≡◌, [], rules}
use Rattle.std.proofs.lemmas.Result.{err_from_is_err_and, IfErr-weaker}
use Rattle.wire_fields.proofs.Closing.{no_numbers, numbers_taken, no_place, on_ok_three}
use Rattle.wire_fields.proofs.closed.merge_closed_each.Goals as goal

pub returns-in_err-merge-clause-err : goal.returns-in_err-merge-clause-err
returns-in_err-merge-clause-err g c =
    let p = err_from_is_err_and c.from_residual.result c.from_residual.ensures.1 in
    let empty : c.new-numbers.result.items ≡ [] = search rules in
    rw (p.1, p.2) (λ other. no_numbers g.E.Enumeration.of_number _ _ _ _ _ _ empty
    c.records_in_order.ensures.limits (c.in_err-merge.ensures.err other))

pub returns-clause-ok : goal.returns-clause-ok
returns-clause-ok g c =
    let empty : c.new-numbers.result.items ≡ [] = search rules in
    on_ok_three c.sort_numbers.result (λ sorts left fits. numbers_taken g.E.Enumeration.of_number
    _ _ _ _ _ _ empty c.records_in_order.ensures.limits _ _ _ c.in_ok-merge.ensures.ok _ _
    _ _ c.field_number.ensures.number (search rules) sorts left fits) c.sort_numbers.ensures.ok c.sort_numbers.ensures.left
    c.sort_numbers.ensures.fits

pub returns-clause-err : goal.returns-clause-err
returns-clause-err g c =
    let empty : c.new-numbers.result.items ≡ [] = search rules in
    IfErr-weaker c.sort_numbers.result _ _ (λ e none other. no_place g.E.Enumeration.of_number
    _ _ _ _ _ _ empty c.records_in_order.ensures.limits _ _ _ c.in_ok-merge.ensures.ok
    c.records_in_order.ensures.reading _ (search rules) (none other)) c.sort_numbers.ensures.err
