use Rattle.std.proofs.Common.{◌≡◌, take}
use Rattle.wire_base.specs.Charge.{charge}
use Rattle.wire_base.specs.Limits.{Fits, left_after}
use Rattle.wire_base.specs.Spans.{SpellEach}
use Rattle.wire_base.proofs.SpanLists.{spans_of}
use Rattle.wire_base.proofs.unknown_fields_view.UnknownFieldsView.read_spans.Given as goal

abbrev pub invariant-loop-span : goal.invariant-loop-span
invariant-loop-span l = record {
  each : SpellEach (spans_of (take l.span-index l.span-items)) l.fields;
  within : Fits (charge l.fields) l.fn.context;
  charged : l.context ≡ left_after l.fn.context (charge l.fields);
}
