-- What a room of the caller's holds.
use Rattle.wire_base.specs.declared.room.Room.{Room}
use Rattle.wire_base.specs.Sink.{Held, in_slice}

-- the slice, filled up to the place
abbrev pub in_room : Room → Held
in_room sink = in_slice sink.room.ghost_name sink.room.now sink.place
