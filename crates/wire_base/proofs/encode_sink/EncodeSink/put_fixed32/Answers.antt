use Rattle.wire_base.proofs.encode_sink.EncodeSink.put_fixed32.Goals as goal

pub returns : goal.returns
returns g c = c.two_parts.ensures.behind _ _ _ _ _ tt _ c.in_ok-put_varint.ensures
    (c.put_is_a_write.ensures _ _ _ _ c.put_u32_le.ensures)
