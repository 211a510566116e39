use Rattle.std.proofs.lemmas.Result.{err_from_is_err_and}
use Rattle.wire_text.proofs.Payloads.{no_string, refusal_is_no_utf8, refused_text}
use Rattle.wire_text.proofs.decode.decode_string.Goals as goal

pub returns-in_err-payload-clause-fault : goal.returns-in_err-payload-clause-fault
returns-in_err-payload-clause-fault g c =
    let p = err_from_is_err_and c.from_residual.result c.from_residual.ensures.1 in
    rw (p.1, p.2) (no_string _ _ c.in_err-payload.ensures.fault)

pub returns-in_err-payload-clause-passed : goal.returns-in_err-payload-clause-passed
returns-in_err-payload-clause-passed g c =
    let p = err_from_is_err_and c.from_residual.result c.from_residual.ensures.1 in
    rw (p.1, p.2) (λ same. absurd (refusal_is_no_utf8 _ _ c.in_err-payload.ensures.fault same))

pub returns-clause-fault : goal.returns-clause-fault
returns-clause-fault g c =
    refused_text c.into_text.result _ _ _ c.in_ok-payload.ensures.ok
    c.into_text.ensures.err c.into_text.ensures.not_utf8
