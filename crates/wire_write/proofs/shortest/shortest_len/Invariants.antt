use Rattle.std.proofs.Common.{◌≡◌, ◌-◌, ◌^◌, ℕ, List, min, drop, length}
use Rattle.wire_read.specs.Budget.{read_limits}
use Rattle.wire_write.proofs.Items.{Seen}
use Rattle.wire_write.proofs.shortest.shortest_len.Given as goal

abbrev pub invariant-loop-event : goal.invariant-loop-event
invariant-loop-event l =
    (text : List ℕ) × Seen (read_limits l.context) l.fn.bytes l.reader text
    × (l.len ≡ min (length text) (2 ^ 64 - 1))

abbrev pub decreases-loop-event : goal.decreases-loop-event
decreases-loop-event l = length (drop l.reader.place l.fn.bytes)
