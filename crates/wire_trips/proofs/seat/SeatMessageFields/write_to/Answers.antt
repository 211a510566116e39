use Rattle.std.proofs.Common.{sym}
use Rattle.std.proofs.lemmas.Iterator.Adapters.{option_map_id}
use Rattle.wire_trips.proofs.seat.SeatMessageFields.write_to.Goals as goal

pub write-requires-clause-sizes : goal.write-requires-clause-sizes
write-requires-clause-sizes g c =
    let m = c.args.self.now in
    rw (option_map_id m.own_side)
    (c.requires.sizes)

pub write-requires-clause-size : goal.write-requires-clause-size
write-requires-clause-size g c =
    let m = c.args.self.now in
    rw (option_map_id m.own_side)
    (c.requires.size)

pub returns-clause-written : goal.returns-clause-written
returns-clause-written g c =
    let m = c.args.self.now in
    rw (sym (option_map_id m.own_side))
    (c.write.ensures.written)

pub returns-clause-read : goal.returns-clause-read
returns-clause-read g c =
    let m = c.args.self.now in
    rw (sym (option_map_id m.own_side))
    (c.write.ensures.read)
