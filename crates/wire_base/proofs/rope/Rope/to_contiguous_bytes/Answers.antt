use Rattle.std.proofs.Common.{rules}
use Rattle.wire_base.proofs.Ropes.{concat-take_more}
use Rattle.wire_base.proofs.rope.Rope.to_contiguous_bytes.Goals as goal

pub loop-segment-preserved : goal.loop-segment-preserved
loop-segment-preserved c =
    let all = c.self.inside.finished.items in
    let item = rw c.deref-segment-items.ensures.value at c.segment-item.is in
    let more = concat-take_more all c.loop-segment.segment-index c.segment-item.result
    (search rules) item in
    search rules
