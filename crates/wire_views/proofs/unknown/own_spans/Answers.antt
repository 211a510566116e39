use Rattle.std.proofs.Common.{ap, ◌∙◌}
use Rattle.std.proofs.lemmas.List.{take_all}
use Rattle.std.proofs.lemmas.Result.{err_from_is_err_and}
use Rattle.wire_views.specs.Spans.{span_fields}
use Rattle.wire_views.proofs.SpanLaws.{owned_span_more, span_refused}
use Rattle.wire_views.proofs.unknown.own_spans.Goals as goal

pub loop-span-preserved : goal.loop-span-preserved
loop-span-preserved c =
    owned_span_more c.one_payload.ensures _ c.loop-span.span-index _ c.span-item.is _ _ _ _ _
    c.loop-span.invariant c.loop-span-test.true c.in_ok-field.ensures.number
    c.in_ok-field.ensures.ok.read c.in_ok-push_field.ensures.ok

pub returns-in_err-field-clause-err : goal.returns-in_err-field-clause-err
returns-in_err-field-clause-err c =
    let p = err_from_is_err_and c.from_residual.result c.from_residual.ensures.1 in
    rw (p.1, p.2) (span_refused c.no_payload_beside_fault.ensures c.span-item.result _
    c.new-context.ensures _
    c.in_err-field.ensures.fault)

pub returns-clause-ok : goal.returns-clause-ok
returns-clause-ok c =
    c.loop-span.invariant ∙ ap span_fields (take_all c.loop-span.span-index _ c.loop-span-test.false)
