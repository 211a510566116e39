use Rattle.std.proofs.Common.{take, drop, ◌+◌, sym, ap, ◌∙◌}
use Rattle.std.proofs.lemmas.Result.{err_from_is_err_and}
use Rattle.wire_base.specs.Spans.{past}
use Rattle.wire_base.proofs.Spans.{read_more}
use Rattle.wire_base.proofs.SpanLists.{spans_of, spans_of-around, spans_of-more}
use Rattle.wire_base.proofs.unknown_fields_view.UnknownFieldsView.read_spans.Goals as goal

pub returns-in_err-append_from_slice-clause-fault : goal.returns-in_err-append_from_slice-clause-fault
returns-in_err-append_from_slice-clause-fault c =
    let p = err_from_is_err_and c.from_residual.result c.from_residual.ensures.1 in
    let loop = c.loop-span.invariant in
    let i = c.loop-span.span-index in
    let borrowed = c.deref-span-items.result.now in
    rw (p.1, p.2)
    (past (spans_of (take i borrowed)) c.loop-span.fields _ (spans_of (drop (i + 1) borrowed))
    (sym c.self.view_is ∙ ap spans_of (sym c.deref-span-items.ensures.value)
    ∙ spans_of-around borrowed i _ c.loop-span-test.true) loop.each loop.within
    (rw loop.charged at c.in_err-append_from_slice.ensures.fault))

pub loop-span-preserved : goal.loop-span-preserved
loop-span-preserved c =
    let loop = c.loop-span.invariant in
    let kept = read_more _ _ _ _ _ _ _ _
    (spans_of-more c.deref-span-items.result.now c.loop-span.span-index _ c.loop-span-test.true)
    loop.each loop.within loop.charged c.in_ok-append_from_slice.ensures.ok in
    record { each = kept.0; within = kept.1; charged = kept.2 }
