use Rattle.std.proofs.Common.{sym}
use Rattle.std.proofs.lemmas.Iterator.Adapters.{option_map_id}
use Rattle.wire_visits.proofs.journey.JourneyMessageFields.compute_size.Goals as goal

pub returns-clause-size : goal.returns-clause-size
returns-clause-size c =
    let m = c.args.self.now in
    rw (sym (option_map_id m.there))
    (rw (sym (option_map_id m.mostly))
    (c.measure.ensures.size))

pub returns-clause-sizes : goal.returns-clause-sizes
returns-clause-sizes c =
    let m = c.args.self.now in
    rw (sym (option_map_id m.there))
    (rw (sym (option_map_id m.mostly))
    (c.measure.ensures.sizes))
