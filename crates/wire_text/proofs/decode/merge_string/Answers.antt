use Rattle.std.proofs.Common.{inl, arith}
use Rattle.std.proofs.lemmas.Result.{err_from_is_err_and}
use Rattle.wire_text.specs.StringPayload.{no_payload, not_utf8}
use Rattle.wire_text.proofs.Values.{chunk_front}
use Rattle.wire_text.proofs.decode.merge_string.Goals as goal
use Rattle.wire_text.proofs.decode.merge_string.Goals.{in-Ok+in_ok-put_text-in-Ok, in-Err}

pub returns-in_err-len-clause-fault : goal.returns-in_err-len-clause-fault
returns-in_err-len-clause-fault g c =
    let p = err_from_is_err_and c.from_residual.result c.from_residual.ensures.1 in
    rw (p.1, p.2) (inl (no_payload c.in_err-len.ensures.fault))

pub returns-in_err-value-clause-fault : goal.returns-in_err-value-clause-fault
returns-in_err-value-clause-fault g c =
    let p = err_from_is_err_and c.from_residual-in_err-value.result
    c.from_residual-in_err-value.ensures.1 in
    let refused = c.in_err-value.ensures in
    rw (p.1, p.2, refused.err)
    (inl (not_utf8 _ _ c.in_ok-len.ensures.payload
    (rw c.copy_bytes.ensures.items at refused.not_utf8)))

pub returns-clause-fault : goal.returns-clause-fault
returns-clause-fault g c =
    let front = chunk_front c.in_ok-len.len c.chunk-chunk.result.now
    (g.B.Buf.unread c.decode_length.new.buf) c.chunk-chunk.ensures
    (omega (arith, c.if-chunk-len.false)) in
    elim c.match-from_utf8.branch [
      | in-Ok+in_ok-put_text-in-Ok w ↦ rw w.result-is tt
      | in-Err w ↦ rw w.result-is (inl (not_utf8 _ _ c.in_ok-len.ensures.payload
          (rw front at w.in-Err.ensures)))
    ]
