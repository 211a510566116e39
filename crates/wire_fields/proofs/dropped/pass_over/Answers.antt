use Rattle.std.proofs.lemmas.Result.{IfErr-weaker, on_ok_weaker}
use Rattle.wire_fields.proofs.Dropping.{passed, not_passed}
use Rattle.wire_fields.proofs.dropped.pass_over.Goals as goal

pub returns-clause-ok : goal.returns-clause-ok
returns-clause-ok g c =
    on_ok_weaker c.skip_field_depth.result
    (λ h. passed _ _ _ _ _ c.depth.ensures c.limits_add_up.ensures h.0 _ h.1)
    c.skip_field_depth.ensures.ok

pub returns-clause-err : goal.returns-clause-err
returns-clause-err g c =
    IfErr-weaker c.skip_field_depth.result _ _ (λ e fault. not_passed _ _ _ _ _ c.depth.ensures
    c.no_payload_beside_fault.ensures e fault)
    c.skip_field_depth.ensures.fault
