use Rattle.std.proofs.Common.{◌+◌, ap, ◌∙◌, sym, length, drop, rules}
use Rattle.wire_base.specs.Text.{text_of}
use Rattle.wire_fields.specs.Numbers.{in_64_bits}
use Rattle.wire_views.specs.Spans.{span_fields}
use Rattle.wire_views.proofs.TokenLaws.{counted_more, counted_all}
use Rattle.wire_views.proofs.WrittenSpans.{next_span, no_span}
use Rattle.wire_views.proofs.unknown_written.total_len.Goals as goal

pub loop-span-preserved : goal.loop-span-preserved
loop-span-preserved c =
    let i = c.loop-span.span-index in
    let spans = c.args.spans.now in
    record {
      fits = search rules;
      counted = counted_more c.loop-span.size _ _ _
          (text_of (span_fields (drop (i + 1) spans))) c.span_len.ensures c.saturating_add-size.ensures
          ∙ ap (λ t. in_64_bits (c.loop-span.size + length t))
          (sym (next_span spans i _ c.loop-span-test.true c.span-item.is))
          ∙ c.loop-span.invariant.counted;
    }

pub returns : goal.returns
returns c =
    counted_all _ _ c.loop-span.invariant.fits
    (rw (no_span c.args.spans.now c.loop-span.span-index c.loop-span-test.false) at
    c.loop-span.invariant.counted)
