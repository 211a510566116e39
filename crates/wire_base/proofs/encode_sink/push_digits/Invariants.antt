use Rattle.std.proofs.Common.{◌≡◌, ◌+◌, ◌^◌, ◌<◌, ◌≤◌, ◌++◌, length}
use Rattle.std.specs.Prelude.{vec_len, vec_capacity}
use Rattle.wire_base.specs.Varint.{shortest_varint}
use Rattle.wire_base.proofs.encode_sink.push_digits.Given as goal

abbrev pub invariant-loop-rest : goal.invariant-loop-rest
invariant-loop-rest l = record {
  fits : l.rest < 2 ^ 64;
  len : vec_len l.bytes + length (shortest_varint l.rest) ≤ vec_len l.fn.bytes + 10;
  capacity : vec_capacity l.bytes ≡ vec_capacity l.fn.bytes;
  written : l.bytes.items ++ shortest_varint l.rest
      ≡ l.fn.bytes.items ++ shortest_varint l.fn.value;
}

abbrev pub decreases-loop-rest : goal.decreases-loop-rest
decreases-loop-rest l = l.rest
