use Rattle.std.proofs.Common.{◌+◌, ◌*◌, drop, map, ◌≡◌}
use Rattle.wire_fields.specs.Nest.{nodes, all_nodes}
use Rattle.wire_fields.specs.NestTable.{message_at}
use Rattle.wire_required.specs.Missing.{each_from}
use Rattle.wire_required.specs.Nested.{family_missing}
use Rattle.wire_required.proofs.MissingRows.{left_missing}
use Rattle.wire_required.proofs.nested.+missing.Given as goal

-- ---- a message inside has fewer messages in it

abbrev pub decreases-slice_missing : goal.decreases-slice_missing
decreases-slice_missing g l = 3 * nodes (message_at
    (g.T.RequiredSlice.family.table (g.T.RequiredSlice.sort l.messages))
    (g.T.RequiredSlice.views l.messages) l.index)

abbrev pub decreases-missing_in_row : goal.decreases-missing_in_row
decreases-missing_in_row g l = 3 * all_nodes (g.T.RequiredSlice.views l.messages) + 2

abbrev pub decreases-missing_in_list : goal.decreases-missing_in_list
decreases-missing_in_list g l = 3 * all_nodes (g.T.RequiredSlice.views l.messages) + 1

-- ---- what the rows, or the messages, to come lack is what all of them lack

abbrev pub invariant-slice_missing-loop-row : goal.invariant-slice_missing-loop-row
invariant-slice_missing-loop-row g l =
    let family = g.T.RequiredSlice.family in
    let asked = g.T.RequiredSlice.asked in
    let s = g.T.RequiredSlice.sort l.fn.messages in
    let m = message_at (family.table s) (g.T.RequiredSlice.views l.fn.messages) l.fn.index in
    family_missing family asked s m ≡ left_missing family asked s m l.row

abbrev pub invariant-missing_in_list-loop-index : goal.invariant-missing_in_list-loop-index
invariant-missing_in_list-loop-index g l =
    let each = map (family_missing g.T.RequiredSlice.family g.T.RequiredSlice.asked
    (g.T.RequiredSlice.sort l.fn.messages)) (g.T.RequiredSlice.views l.fn.messages) in
    each_from (λ m. m) 0 each ≡ each_from (λ m. m) l.index (drop l.index each)
