use Rattle.std.proofs.lemmas.Result.{err_from_is_err_and}
use Rattle.wire_views.proofs.WrittenSpans.{next_span, no_span}
use Rattle.wire_views.proofs.unknown_written.put_each.Goals as goal

pub returns-in_err-put_span : goal.returns-in_err-put_span
returns-in_err-put_span g c =
    let p = err_from_is_err_and c.from_residual.result c.from_residual.ensures.1 in
    rw (p.1, p.2) (c.piece_by_piece.ensures.refused _ _ _ _ _ _ _ _ c.loop-span.invariant
    (next_span c.args.spans.now c.loop-span.span-index _ c.loop-span-test.true c.span-item.is)
    c.in_err-put_span.ensures)

pub loop-span-preserved : goal.loop-span-preserved
loop-span-preserved g c =
    c.piece_by_piece.ensures.more _ _ _ _ _ _ _ tt c.loop-span.invariant
    (next_span c.args.spans.now c.loop-span.span-index _ c.loop-span-test.true c.span-item.is)
    c.in_ok-put_span.ensures

pub returns : goal.returns
returns g c =
    let left = no_span c.args.spans.now c.loop-span.span-index c.loop-span-test.false in
    c.piece_by_piece.ensures.done _ _ _ (rw left at c.loop-span.invariant)
