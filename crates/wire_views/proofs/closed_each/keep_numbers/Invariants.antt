use Rattle.std.proofs.Common.{List, ℕ, length}
use Rattle.wire_codec.specs.Packed.{SpellsEach}
use Rattle.wire_codec.specs.Varint.{IsSpelling}
use Rattle.wire_views.specs.Spans.{span_fields}
use Rattle.wire_views.proofs.ClosedNumbers.{Left}
use Rattle.wire_views.proofs.closed_each.keep_numbers.Given as goal

-- of whatever numbers stand there, some are left
abbrev pub invariant-loop-rest : goal.invariant-loop-rest
invariant-loop-rest g l =
    (xs : List ℕ) → SpellsEach IsSpelling xs l.fn.numbers
    → Left g.E.Enumeration.of_number l.fn.number (span_fields l.fn.spans.items)
    (span_fields l.spans.items) xs l.rest

abbrev pub decreases-loop-rest : goal.decreases-loop-rest
decreases-loop-rest g l = length l.rest
