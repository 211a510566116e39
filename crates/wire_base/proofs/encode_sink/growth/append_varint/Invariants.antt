use Rattle.std.proofs.Common.{◌^◌, ◌<◌}
use Rattle.wire_base.specs.Sink.{IsWrittenTo, in_memory}
use Rattle.wire_base.specs.Varint.{shortest_varint}
use Rattle.wire_base.proofs.encode_sink.growth.append_varint.Given as goal

abbrev pub invariant-loop-rest : goal.invariant-loop-rest
invariant-loop-rest l = record {
  fits : l.rest < 2 ^ 64;
  written : IsWrittenTo (shortest_varint l.fn.value) (in_memory l.fn.bytes.items)
      (in_memory l.bytes.items) (shortest_varint l.rest);
}

abbrev pub decreases-loop-rest : goal.decreases-loop-rest
decreases-loop-rest l = l.rest
