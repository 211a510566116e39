use Rattle.std.proofs.lemmas.Result.{on_ok_weaker}
use Rattle.wire_fields.proofs.Reading.{on_err_from}
use Rattle.wire_structs.proofs.PassedRecords.{passed_over, not_passed_over}
use Rattle.wire_structs.proofs.passing.pass_by.Goals as goal

pub returns-clause-ok : goal.returns-clause-ok
returns-clause-ok g c =
    on_ok_weaker c.pass_payload.result (passed_over _ _ _ _ _ _) c.pass_payload.ensures.ok

pub returns-clause-err : goal.returns-clause-err
returns-clause-err g c =
    on_err_from c.pass_payload.result (not_passed_over
    c.no_payload_beside_fault.ensures _ _ _ _)
    c.pass_payload.ensures.fault
