use Rattle.std.proofs.Common.{inl, refl, arith, ◌∙◌}
use Rattle.std.proofs.lemmas.Result.{err_from_is_err_and}
use Rattle.wire_text.specs.FromWire.{no_payload}
use Rattle.wire_text.proofs.Values.{chunk_front, lent_back, refuses_value, refuses_owned}
use Rattle.wire_text.proofs.plugged.decode_plugged.Goals as goal

pub returns-in_err-len-clause-fault : goal.returns-in_err-len-clause-fault
returns-in_err-len-clause-fault g c =
    let p = err_from_is_err_and c.from_residual.result c.from_residual.ensures.1 in
    rw (p.1, p.2) (inl (no_payload c.in_err-len.ensures.fault))

pub returns-then-chunk-len-clause-fault : goal.returns-then-chunk-len-clause-fault
returns-then-chunk-len-clause-fault g c =
    let taken = c.in_ok-payload.ensures in
    let front = c.owned.ensures.bytes ∙ c.in_ok-from_vec.ensures.ok ∙ taken.ok in
    refuses_owned g.T.FromWire.answers _ _ _ c.in_ok-len.ensures.payload
    c.from_wire.result _ taken.rest (rw front at c.from_wire.ensures.err)

pub returns-in_err-value-clause-fault : goal.returns-in_err-value-clause-fault
returns-in_err-value-clause-fault g c =
    let r = c.from_residual-in_err-value in
    let p = err_from_is_err_and r.result r.ensures.1 in
    rw (p.1, p.2)
    (refuses_value g.T.FromWire.answers _ _ _ c.in_ok-len.ensures.payload _ _
    (lent_back _ _ _ refl)
    (rw (c.borrowed.ensures.bytes
    ∙ chunk_front _ _ _ c.chunk-chunk.ensures
    (omega (arith, c.if-chunk-len.false))) at c.in_err-value.ensures.err))
