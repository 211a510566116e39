use Rattle.std.proofs.Common.{sym}
use Rattle.std.proofs.lemmas.Iterator.Adapters.{option_map_id}
use Rattle.wire_albums.proofs.parcel.ParcelFields10To10Parts.len.Goals as goal

pub returns-clause-ok : goal.returns-clause-ok
returns-clause-ok c =
    let m = c.args.self.now.message.now in
    rw (sym (option_map_id m.state))
    (c.len.ensures.ok)
