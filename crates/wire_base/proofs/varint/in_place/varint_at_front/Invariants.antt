use Rattle.std.proofs.Common.{◌+◌, ◌*◌, ◌^◌, ◌-◌, ◌<◌, drop}
use Rattle.wire_base.proofs.Varints.{ReadSoFar}
use Rattle.wire_base.proofs.varint.in_place.varint_at_front.Given as goal

abbrev pub invariant-loop-index : goal.invariant-loop-index
invariant-loop-index l = record {
  low : l.low < 2 ^ 28;
  read : ReadSoFar l.bytes (drop l.index l.bytes) l.low l.index;
}

abbrev pub invariant-loop-index-2 : goal.invariant-loop-index-2
invariant-loop-index-2 l = record {
  low : l.low < 2 ^ 28;
  middle : l.middle < 2 ^ (7 * (l.index - 4));
  read : ReadSoFar l.bytes (drop l.index l.bytes) (l.low + l.middle * 2 ^ 28) l.index;
}
