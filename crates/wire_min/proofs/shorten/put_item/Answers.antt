use Rattle.wire_min.proofs.Shortening.{item_moved}
use Rattle.wire_min.proofs.shorten.put_item.Goals as goal

pub returns-in-Bytes : goal.returns-in-Bytes
returns-in-Bytes c =
    item_moved c.args.item c.in-Bytes.count c.args.place c.put_head-behind.result c.args.bytes.now
    c.put_head-behind.new.bytes c.move_down.new.bytes c.in-Bytes.is c.put_head-behind.ensures
    c.requires.payload c.requires.room c.requires.within c.move_down.ensures
