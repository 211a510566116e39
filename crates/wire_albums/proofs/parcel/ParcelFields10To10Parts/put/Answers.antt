use Rattle.std.proofs.Common.{sym}
use Rattle.std.proofs.lemmas.Iterator.Adapters.{option_map_id}
use Rattle.wire_albums.proofs.parcel.ParcelFields10To10Parts.put.Goals as goal

pub put-requires-clause-sizes : goal.put-requires-clause-sizes
put-requires-clause-sizes g c =
    let m = c.args.self.now.message.now in
    rw (option_map_id m.state)
    (c.requires.sizes)

pub put-requires-clause-size : goal.put-requires-clause-size
put-requires-clause-size g c =
    let m = c.args.self.now.message.now in
    rw (option_map_id m.state)
    (c.requires.size)

pub returns-clause-written : goal.returns-clause-written
returns-clause-written g c =
    let m = c.args.self.now.message.now in
    rw (sym (option_map_id m.state))
    (c.put.ensures.written)

pub returns-clause-read : goal.returns-clause-read
returns-clause-read g c =
    let m = c.args.self.now.message.now in
    rw (sym (option_map_id m.state))
    (c.put.ensures.read)
