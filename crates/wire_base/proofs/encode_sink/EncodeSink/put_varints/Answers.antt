use Rattle.std.proofs.lemmas.Result.{err_from_is_err_and}
use Rattle.wire_base.proofs.encode_sink.EncodeSink.put_varints.Goals as goal

pub returns-in_err-put_varint : goal.returns-in_err-put_varint
returns-in_err-put_varint g c =
    let p = err_from_is_err_and c.from_residual.result c.from_residual.ensures.1 in
    rw (p.1, p.2) (c.two_parts.ensures.refused _ _ _ _ _ c.in_err-put_varint.ensures)

pub returns : goal.returns
returns g c =
    c.two_parts.ensures.behind _ _ _ _ _ tt _ c.in_ok-put_varint.ensures c.put_varint-2.ensures
