use Rattle.std.proofs.lemmas.Result.{err_from_is_err_and}
use Rattle.wire_orders.specs.Region.{region-of}
use Rattle.wire_orders.specs.ConditionTest.{place-of-condition_test-from}
use Rattle.wire_fields.specs.ClosedOneof.{closing_untaken}
use Rattle.wire_orders.proofs.condition.set_or_keep_place.Goals as goal

pub returns-in_err-merge_closed-clause-err : goal.returns-in_err-merge_closed-clause-err
returns-in_err-merge_closed-clause-err g c =
    let p = err_from_is_err_and c.from_residual.result c.from_residual.ensures.1 in
    rw (p.1, p.2) (λ other. closing_untaken region-of place-of-condition_test-from _ _ _ _ _ _
    (c.in_err-merge_closed.ensures.err other))
