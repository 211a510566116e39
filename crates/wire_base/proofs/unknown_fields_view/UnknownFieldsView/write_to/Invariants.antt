use Rattle.std.proofs.Common.{drop}
use Rattle.std.specs.List.{concat}
use Rattle.wire_base.specs.Sink.{IsWrittenTo}
use Rattle.wire_base.proofs.SpanLists.{spans_of}
use Rattle.wire_base.proofs.unknown_fields_view.UnknownFieldsView.write_to.Given as goal

abbrev pub invariant-loop-span : goal.invariant-loop-span
invariant-loop-span g l =
    IsWrittenTo (concat l.fn.self) (g.S.EncodeSink.held l.fn.sink) (g.S.EncodeSink.held l.sink)
    (concat (spans_of (drop l.span-index l.span-items)))
