use Rattle.std.proofs.lemmas.Result.{err_from_is_err_and}
use Rattle.wire_base.proofs.encode_sink.EncodeSink.put_delimited.Goals as goal

pub returns-in_err-put_varint-2 : goal.returns-in_err-put_varint-2
returns-in_err-put_varint-2 g c =
    let r = c.from_residual-in_err-put_varint-2 in
    let p = err_from_is_err_and r.result r.ensures.1 in
    let parts = c.two_parts.ensures in
    rw (p.1, p.2) (parts.behind _ _ _ _ _ tt _ c.in_ok-put_varint.ensures
    (parts.refused _ c.args.bytes.now _ _ _ c.in_err-put_varint-2.ensures))

pub returns : goal.returns
returns g c =
    let parts = c.two_parts.ensures in
    parts.behind _ _ _ _ _ tt _ c.in_ok-put_varint.ensures
    (parts.behind _ _ _ _ _ tt _ c.in_ok-put_varint-2.ensures
    (c.put_is_a_write.ensures _ _ _ _ c.put_slice.ensures))
