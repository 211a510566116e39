use Rattle.std.proofs.Common.{◌+◌, ◌*◌, drop}
use Rattle.wire_fields.specs.Messages.{message_each}
use Rattle.wire_fields.specs.Nest.{nodes, all_nodes}
use Rattle.wire_fields.specs.NestTable.{message_at, family_records, encoding_of}
use Rattle.wire_fields.proofs.Measuring.{IsMeasuredTo}
use Rattle.wire_fields.proofs.Nests.{left_at}
use Rattle.wire_fields.proofs.recursive.size.+size.Given as goal

-- ---- a message inside has fewer messages in it

abbrev pub decreases-slice_size : goal.decreases-slice_size
decreases-slice_size g l = 5 * nodes (message_at
    (g.T.RecursiveSlice.family.table (g.T.RecursiveSlice.sort l.messages))
    (g.T.RecursiveSlice.views l.messages) l.index)

abbrev pub decreases-embedded_len : goal.decreases-embedded_len
decreases-embedded_len g l = 5 * nodes (message_at
    (g.T.RecursiveSlice.family.table (g.T.RecursiveSlice.sort l.messages))
    (g.T.RecursiveSlice.views l.messages) l.index) + 1

abbrev pub decreases-grouped_len : goal.decreases-grouped_len
decreases-grouped_len g l = 5 * nodes (message_at
    (g.T.RecursiveSlice.family.table (g.T.RecursiveSlice.sort l.messages))
    (g.T.RecursiveSlice.views l.messages) l.index) + 1

abbrev pub decreases-message_len : goal.decreases-message_len
decreases-message_len g l = 5 * nodes (message_at
    (g.T.RecursiveSlice.family.table (g.T.RecursiveSlice.sort l.messages))
    (g.T.RecursiveSlice.views l.messages) l.index) + 2

abbrev pub decreases-row_len : goal.decreases-row_len
decreases-row_len g l = 5 * all_nodes (g.T.RecursiveSlice.views l.messages) + 4

abbrev pub decreases-each_len : goal.decreases-each_len
decreases-each_len g l = 5 * all_nodes (g.T.RecursiveSlice.views l.messages) + 3

-- ---- the rows so far, and the messages of a row so far, are measured

abbrev pub invariant-slice_size-loop-row : goal.invariant-slice_size-loop-row
invariant-slice_size-loop-row g l =
    let family = g.T.RecursiveSlice.family in
    let s = g.T.RecursiveSlice.sort l.fn.messages in
    let m = message_at (family.table s) (g.T.RecursiveSlice.views l.fn.messages) l.fn.index in
    IsMeasuredTo (family_records family s m) (left_at family s m l.row) l.fn.cache l.cache l.size

abbrev pub invariant-each_len-loop-index : goal.invariant-each_len-loop-index
invariant-each_len-loop-index g l =
    let ms = g.T.RecursiveSlice.views l.fn.messages in
    let each = message_each (encoding_of l.fn.grouped)
    (family_records g.T.RecursiveSlice.family (g.T.RecursiveSlice.sort l.fn.messages)) l.fn.number
    in
    IsMeasuredTo (each ms) (each (drop l.index ms)) l.fn.cache l.cache l.size
