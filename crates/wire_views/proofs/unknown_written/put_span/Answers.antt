use Rattle.wire_views.proofs.ItemTexts.{left_items}
use Rattle.wire_views.proofs.SpanLaws.{payload_there}
use Rattle.wire_views.proofs.unknown_written.put_span.Goals as goal

pub returns : goal.returns
returns g c =
    let there = payload_there c.payload_or_fault.ensures c.one_payload.ensures
    c.no_payload_beside_fault.ensures c.args.span.now in
    let l = left_items _ _ _ _ there in
    rw l.same at (c.put_items.ensures l.item l.items l.rest l.left l.spelled)
