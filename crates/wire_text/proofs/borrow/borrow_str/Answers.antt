use Rattle.std.proofs.lemmas.Result.{err_from_is_err_and}
use Rattle.wire_text.specs.StringPayload.{no_payload}
use Rattle.wire_text.proofs.Payloads.{borrowed_text}
use Rattle.wire_text.proofs.borrow.borrow_str.Goals as goal

pub returns-in_err-payload-clause-fault : goal.returns-in_err-payload-clause-fault
returns-in_err-payload-clause-fault c =
    let p = err_from_is_err_and c.from_residual.result c.from_residual.ensures.1 in
    rw (p.1, p.2) (no_payload c.in_err-payload.ensures.fault)

pub returns-clause-fault : goal.returns-clause-fault
returns-clause-fault c =
    rw c.or.ensures
    (borrowed_text _ c.from_utf8.result _ _ _ c.in_ok-payload.ensures.ok c.from_utf8.ensures)
