use Rattle.std.proofs.Common.{rules}
use Rattle.std.proofs.lemmas.Result.{err_from_is_err_and, IfErr-weaker, on_ok_weaker}
use Rattle.wire_callers.proofs.Counters.{set, passed, not_passed, no_number}
use Rattle.wire_callers.proofs.counter.CounterMessage.merge_field.Goals as goal

pub returns-then-field_number-ne1-clause-ok : goal.returns-then-field_number-ne1-clause-ok
returns-then-field_number-ne1-clause-ok g c =
    on_ok_weaker c.skip_field_depth.result
    (λ h. passed _ _ _ _ _ c.records_in_order.ensures.limits _ h.0 _
    c.depth.ensures (search rules) h.1)
    c.skip_field_depth.ensures.ok

pub returns-then-field_number-ne1-clause-err : goal.returns-then-field_number-ne1-clause-err
returns-then-field_number-ne1-clause-err g c =
    IfErr-weaker c.skip_field_depth.result _ _ (λ e fault wanting. not_passed _ _ _ _ _
    c.no_payload_beside_fault.ensures _ e c.depth.ensures (search rules) fault)
    c.skip_field_depth.ensures.fault

pub returns-in_err-self-clause-err : goal.returns-in_err-self-clause-err
returns-in_err-self-clause-err g c =
    let p = err_from_is_err_and c.from_residual-in_err-self.result
    c.from_residual-in_err-self.ensures.1 in
    rw (p.1, p.2) (λ wanting. no_number _ _ _ _ _ c.no_varint_beside_fault.ensures _
    (search rules) c.in_err-self.ensures.fault)

pub returns-clause-ok : goal.returns-clause-ok
returns-clause-ok g c =
    set _ _ _ _ _ c.records_in_order.ensures.limits _ _ (search rules)
    c.in_ok-check_wire_type.ensures.ok c.in_ok-self.ensures.ok
