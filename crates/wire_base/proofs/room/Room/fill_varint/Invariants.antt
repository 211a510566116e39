use Rattle.std.proofs.Common.{◌≡◌, ◌+◌, ◌^◌, ◌<◌, length}
use Rattle.wire_base.specs.Sink.{followed_by}
use Rattle.wire_base.specs.Room.{in_room}
use Rattle.wire_base.specs.Varint.{shortest_varint}
use Rattle.wire_base.proofs.room.Room.fill_varint.Given as goal

abbrev pub invariant-loop-rest : goal.invariant-loop-rest
invariant-loop-rest l = record {
  fits : l.rest < 2 ^ 64;
  len : length l.self.room.now ≡ length l.fn.self.room.now;
  place : l.self.place + length (shortest_varint l.rest)
      ≡ l.fn.self.place + length (shortest_varint l.fn.value);
  held : followed_by (in_room l.self)
      (shortest_varint l.rest)
      ≡ followed_by (in_room l.fn.self)
      (shortest_varint l.fn.value);
}

abbrev pub decreases-loop-rest : goal.decreases-loop-rest
decreases-loop-rest l = l.rest
