use Rattle.std.proofs.Common.{◌≡◌, ◌+◌, drop, length}
use Rattle.std.specs.List.{concat}
use Rattle.wire_base.proofs.SpanLists.{spans_of}
use Rattle.wire_base.proofs.unknown_fields_view.UnknownFieldsView.encoded_len.Given as goal

-- what is counted so far, and then what is left
abbrev pub invariant-loop-span : goal.invariant-loop-span
invariant-loop-span l =
    l.len + length (concat (spans_of (drop l.span-index l.span-items))) ≡ length (concat l.fn.self)
