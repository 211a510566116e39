use Rattle.std.proofs.Common.{◌≡◌, ◌+◌, ◌^◌, ◌<◌, drop, length}
use Rattle.wire_base.specs.Text.{text_of}
use Rattle.wire_fields.specs.Numbers.{in_64_bits}
use Rattle.wire_views.specs.Spans.{span_fields}
use Rattle.wire_views.proofs.unknown_written.total_len.Given as goal

-- what is counted so far, and what is left
abbrev pub invariant-loop-span : goal.invariant-loop-span
invariant-loop-span l = record {
  fits : l.size < 2 ^ 64;
  counted : in_64_bits (l.size + length (text_of (span_fields (drop l.span-index l.spans))))
      ≡ in_64_bits (length (text_of (span_fields l.fn.spans)));
}
