use Rattle.wire_jsonfields.proofs.Membering.{put_both}
use Rattle.wire_jsonfields.proofs.part.BothJsonPart.write.Goals as goal

pub returns-clause-ok : goal.returns-clause-ok
returns-clause-ok g c =
    let (xs, one, put, is) = c.in_ok-next.ensures.ok in
    put_both g.A.JsonPart.trees g.B.JsonPart.trees (g.A.JsonPart.seen c.args.message.now)
    (g.B.JsonPart.seen c.args.message.now) c.args.first c.in_ok-next.next xs c.args.out.now.items
    c.write.new.out.items c.write-2.new.out.items one put is c.write-2.result c.write-2.ensures.ok
