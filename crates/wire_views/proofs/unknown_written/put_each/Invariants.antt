use Rattle.std.proofs.Common.{drop}
use Rattle.wire_base.specs.Text.{text_of}
use Rattle.wire_codec.specs.Writes.{IsWrittenTo}
use Rattle.wire_views.specs.Spans.{span_fields}
use Rattle.wire_views.proofs.unknown_written.put_each.Given as goal

-- the records so far are written, and those that are left come next
abbrev pub invariant-loop-span : goal.invariant-loop-span
invariant-loop-span g l =
    IsWrittenTo (text_of (span_fields l.fn.spans)) (g.S.EncodeSink.held l.fn.sink)
    (g.S.EncodeSink.held l.sink) (text_of (span_fields (drop l.span-index l.spans)))
