use Rattle.wire_base.proofs.Sinks.{in_vector}
use Rattle.wire_base.proofs.Varints.{shortest_varint-last}
use Rattle.wire_base.proofs.encode_sink.VecU8EncodeSink.put_varint.Goals as goal

pub returns-then-value-lt128 : goal.returns-then-value-lt128
returns-then-value-lt128 c =
    rw (shortest_varint-last c.args.value c.if-value-lt128.true)
    (in_vector _ _ _ tt c.in_ok-push_byte.ensures.ok)
