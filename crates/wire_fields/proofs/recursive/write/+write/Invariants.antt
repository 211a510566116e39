use Rattle.std.proofs.Common.{◌+◌, ◌*◌, drop}
use Rattle.wire_fields.specs.Messages.{message_each}
use Rattle.wire_fields.specs.Nest.{nodes, all_nodes}
use Rattle.wire_fields.specs.NestTable.{message_at, family_records, encoding_of}
use Rattle.wire_fields.proofs.Nests.{left_at}
use Rattle.wire_fields.proofs.Putting.{IsPutTo}
use Rattle.wire_fields.proofs.recursive.write.+write.Given as goal

-- ---- a message inside has fewer messages in it

abbrev pub decreases-write_slice : goal.decreases-write_slice
decreases-write_slice g l = 5 * nodes (message_at
    (g.T.RecursiveSlice.family.table (g.T.RecursiveSlice.sort l.messages))
    (g.T.RecursiveSlice.views l.messages) l.index)

abbrev pub decreases-put_embedded : goal.decreases-put_embedded
decreases-put_embedded g l = 5 * nodes (message_at
    (g.T.RecursiveSlice.family.table (g.T.RecursiveSlice.sort l.messages))
    (g.T.RecursiveSlice.views l.messages) l.index) + 1

abbrev pub decreases-put_grouped : goal.decreases-put_grouped
decreases-put_grouped g l = 5 * nodes (message_at
    (g.T.RecursiveSlice.family.table (g.T.RecursiveSlice.sort l.messages))
    (g.T.RecursiveSlice.views l.messages) l.index) + 1

abbrev pub decreases-put_message : goal.decreases-put_message
decreases-put_message g l = 5 * nodes (message_at
    (g.T.RecursiveSlice.family.table (g.T.RecursiveSlice.sort l.messages))
    (g.T.RecursiveSlice.views l.messages) l.index) + 2

abbrev pub decreases-put_row : goal.decreases-put_row
decreases-put_row g l = 5 * all_nodes (g.T.RecursiveSlice.views l.messages) + 4

abbrev pub decreases-put_each : goal.decreases-put_each
decreases-put_each g l = 5 * all_nodes (g.T.RecursiveSlice.views l.messages) + 3

-- ---- the rows so far, and the messages of a row so far, are written

abbrev pub invariant-write_slice-loop-row : goal.invariant-write_slice-loop-row
invariant-write_slice-loop-row g l =
    let family = g.T.RecursiveSlice.family in
    let s = g.T.RecursiveSlice.sort l.fn.messages in
    let m = message_at (family.table s) (g.T.RecursiveSlice.views l.fn.messages) l.fn.index in
    IsPutTo (family_records family s m) (left_at family s m l.row) l.fn.cache
    l.cache
    (g.S.EncodeSink.held l.fn.sink) (g.S.EncodeSink.held l.sink)

abbrev pub invariant-put_each-loop-index : goal.invariant-put_each-loop-index
invariant-put_each-loop-index g l =
    let ms = g.T.RecursiveSlice.views l.fn.messages in
    let each = message_each (encoding_of l.fn.grouped)
    (family_records g.T.RecursiveSlice.family (g.T.RecursiveSlice.sort l.fn.messages)) l.fn.number
    in
    IsPutTo (each ms) (each (drop l.index ms)) l.fn.cache l.cache
    (g.S.EncodeSink.held l.fn.sink) (g.S.EncodeSink.held l.sink)
