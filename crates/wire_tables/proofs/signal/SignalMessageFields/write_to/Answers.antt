use Rattle.std.proofs.Common.{sym}
use Rattle.std.proofs.lemmas.Iterator.Adapters.{option_map_id}
use Rattle.wire_tables.proofs.signal.SignalMessageFields.write_to.Goals as goal

pub write-requires-clause-sizes : goal.write-requires-clause-sizes
write-requires-clause-sizes g c =
    let m = c.args.self.now in
    rw (option_map_id m.level)
    (c.requires.sizes)

pub write-requires-clause-size : goal.write-requires-clause-size
write-requires-clause-size g c =
    let m = c.args.self.now in
    rw (option_map_id m.level)
    (c.requires.size)

pub returns-clause-written : goal.returns-clause-written
returns-clause-written g c =
    let m = c.args.self.now in
    rw (sym (option_map_id m.level))
    (c.write.ensures.written)

pub returns-clause-read : goal.returns-clause-read
returns-clause-read g c =
    let m = c.args.self.now in
    rw (sym (option_map_id m.level))
    (c.write.ensures.read)
