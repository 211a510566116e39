use Rattle.std.proofs.Common.{◌^◌, ◌<◌}
use Rattle.wire_base.specs.Sink.{IsWrittenTo}
use Rattle.wire_base.specs.Varint.{shortest_varint}
use Rattle.wire_base.proofs.encode_sink.EncodeSink.put_varint.Given as goal

abbrev pub invariant-loop-rest : goal.invariant-loop-rest
invariant-loop-rest g l = record {
  fits : l.rest < 2 ^ 64;
  written : IsWrittenTo (shortest_varint l.fn.value) (g.Self.EncodeSink.held l.fn.self)
      (g.Self.EncodeSink.held l.self) (shortest_varint l.rest);
}

abbrev pub decreases-loop-rest : goal.decreases-loop-rest
decreases-loop-rest g l = l.rest
