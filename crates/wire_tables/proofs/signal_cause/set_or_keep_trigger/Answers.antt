use Rattle.std.proofs.lemmas.Result.{err_from_is_err_and}
use Rattle.wire_tables.specs.Level.{level-of}
use Rattle.wire_tables.specs.SignalCause.{trigger-of-signal_cause-from}
use Rattle.wire_fields.specs.ClosedOneof.{closing_untaken}
use Rattle.wire_tables.proofs.signal_cause.set_or_keep_trigger.Goals as goal

pub returns-in_err-merge_closed-clause-err : goal.returns-in_err-merge_closed-clause-err
returns-in_err-merge_closed-clause-err g c =
    let p = err_from_is_err_and c.from_residual.result c.from_residual.ensures.1 in
    rw (p.1, p.2) (λ other. closing_untaken level-of trigger-of-signal_cause-from _ _ _ _ _ _
    (c.in_err-merge_closed.ensures.err other))
