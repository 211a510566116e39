use Rattle.std.proofs.Common.{sym}
use Rattle.std.proofs.lemmas.Iterator.Adapters.{option_map_id}
use Rattle.wire_visits.proofs.journey.JourneyMessageFields.write_to.Goals as goal

pub write-requires-clause-sizes : goal.write-requires-clause-sizes
write-requires-clause-sizes g c =
    let m = c.args.self.now in
    rw (option_map_id m.there)
    (rw (option_map_id m.mostly)
    (c.requires.sizes))

pub write-requires-clause-size : goal.write-requires-clause-size
write-requires-clause-size g c =
    let m = c.args.self.now in
    rw (option_map_id m.there)
    (rw (option_map_id m.mostly)
    (c.requires.size))

pub returns-clause-written : goal.returns-clause-written
returns-clause-written g c =
    let m = c.args.self.now in
    rw (sym (option_map_id m.there))
    (rw (sym (option_map_id m.mostly))
    (c.write.ensures.written))

pub returns-clause-read : goal.returns-clause-read
returns-clause-read g c =
    let m = c.args.self.now in
    rw (sym (option_map_id m.there))
    (rw (sym (option_map_id m.mostly))
    (c.write.ensures.read))
