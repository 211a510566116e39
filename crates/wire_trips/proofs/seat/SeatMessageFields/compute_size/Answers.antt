use Rattle.std.proofs.Common.{sym}
use Rattle.std.proofs.lemmas.Iterator.Adapters.{option_map_id}
use Rattle.wire_trips.proofs.seat.SeatMessageFields.compute_size.Goals as goal

pub returns-clause-size : goal.returns-clause-size
returns-clause-size c =
    let m = c.args.self.now in
    rw (sym (option_map_id m.own_side))
    (c.measure.ensures.size)

pub returns-clause-sizes : goal.returns-clause-sizes
returns-clause-sizes c =
    let m = c.args.self.now in
    rw (sym (option_map_id m.own_side))
    (c.measure.ensures.sizes)
