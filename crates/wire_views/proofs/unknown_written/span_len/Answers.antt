use Rattle.wire_views.proofs.WrittenSpans.{counted_span}
use Rattle.wire_views.proofs.unknown_written.span_len.Goals as goal

pub returns : goal.returns
returns c = counted_span c.args.span.now _ _ c.items_len.ensures c.unwrap_or.ensures
