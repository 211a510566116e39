use Rattle.std.proofs.Common.{◌<◌, ◌∙◌, sym, refl, length, rules, arith}
use Rattle.wire_fields.specs.Nest.{nodes, all_nodes, row_count, row_less, message_less}
use Rattle.wire_fields.specs.NestTable.{empty_of, encoding_of, message_at, family_records}
use Rattle.wire_fields.proofs.Measuring.{embedded_measured, more, nothing_recorded}
use Rattle.wire_fields.proofs.Nests.{next_at, all_at, none_at, next_row, next_run, no_rows}
use Rattle.wire_fields.proofs.Nests.{measured_all}
use Rattle.wire_fields.proofs.recursive.size.+size.Goals as goal

pub embedded_len-returns-clause-ok : goal.embedded_len-returns-clause-ok
embedded_len-returns-clause-ok g t c =
    embedded_measured c.args.number _ _ _ _ _ _ _ _ _ c.in_ok-slot.ensures.index
    c.in_ok-slot.ensures.slot c.in_ok-len.ensures.sizes c.in_ok-len.ensures.size c.set.ensures
    c.from.ensures c.delimited_len.ensures

pub row_len-returns-then-count-eq0-clause-ok : goal.row_len-returns-then-count-eq0-clause-ok
row_len-returns-then-count-eq0-clause-ok g t c =
    let none = none_at (encoding_of c.args.grouped)
    (family_records g.T.RecursiveSlice.family (g.T.RecursiveSlice.sort c.args.messages))
    c.args.number (g.T.RecursiveSlice.views c.args.messages)
    (sym c.count.ensures ∙ c.if-count-eq0.true) in
    rw none (record { size = refl; sizes = nothing_recorded c.args.cache.now })

pub each_len-message_len-requires : goal.each_len-message_len-requires
each_len-message_len-requires g t c κs within =
    let ms = g.T.RecursiveSlice.views c.args.messages in
    let there : c.loop-index.index < length ms =
    omega (arith, c.loop-index-test.true, c.count-index-end.ensures) in
    let less = message_less ms c.loop-index.index
    (empty_of (g.T.RecursiveSlice.family.table (g.T.RecursiveSlice.sort c.args.messages))) there in
    (omega (arith, less), (search rules, (c.requires, there)))

pub each_len-loop-index-preserved : goal.each_len-loop-index-preserved
each_len-loop-index-preserved g t c =
    let family = g.T.RecursiveSlice.family in
    let s = g.T.RecursiveSlice.sort c.args.messages in
    let ms = g.T.RecursiveSlice.views c.args.messages in
    more c.joined_records_add_up.ensures _ _ _ _ _ _ _ _ _ _ c.loop-index.invariant
    (next_at (family.table s) (encoding_of c.args.grouped) (family_records family s) c.args.number
    ms
    c.loop-index.index (omega (arith, c.loop-index-test.true, c.count-index-end.ensures)))
    c.in_ok-message_len.ensures.ok c.saturating_add-size.ensures

pub each_len-returns-clause-ok : goal.each_len-returns-clause-ok
each_len-returns-clause-ok g t c =
    measured_all _ _ _ _ _ (all_at (encoding_of c.args.grouped)
    (family_records g.T.RecursiveSlice.family (g.T.RecursiveSlice.sort c.args.messages))
    c.args.number (g.T.RecursiveSlice.views c.args.messages) c.loop-index.index
    (omega (arith, c.loop-index-test.false, c.count-index-end.ensures))) c.loop-index.invariant

pub slice_size-row_len-requires : goal.slice_size-row_len-requires
slice_size-row_len-requires g t c κs within =
    let family = g.T.RecursiveSlice.family in
    let s = g.T.RecursiveSlice.sort c.args.messages in
    let m = message_at (family.table s) (g.T.RecursiveSlice.views c.args.messages) c.args.index in
    let less : all_nodes (g.T.RecursiveSlice.views c.row.result) < nodes m =
    row_less _ _ _ c.row.ensures.messages in
    (omega (arith, less), (search rules, c.number-number.ensures.in_range))

pub slice_size-loop-row-preserved : goal.slice_size-loop-row-preserved
slice_size-loop-row-preserved g t c =
    let joins = c.joined_records_add_up.ensures in
    let family = g.T.RecursiveSlice.family in
    let s = g.T.RecursiveSlice.sort c.args.messages in
    let m = message_at (family.table s) (g.T.RecursiveSlice.views c.args.messages) c.args.index in
    let here : c.loop-row.row < row_count m = omega (
      arith,
      c.loop-row-test.true,
      c.rows-row-end.ensures,
      g.met.T.RecursiveSlice.counted c.args.messages c.args.index,
    ) in
    more joins _ _ _ _ _ _ _ _ _ _ (more joins _ _ _ _ _ _ _ _ _ _ c.loop-row.invariant
    (next_row family s m c.loop-row.row _ _ _ _ here c.number-number.ensures.is
    c.is_grouped-grouped.ensures c.row.ensures.sort c.row.ensures.messages)
    c.in_ok-own.ensures.ok c.saturating_add.ensures) (next_run family s m c.loop-row.row)
    c.in_ok-behind.ensures.ok c.saturating_add-size.ensures

pub slice_size-returns-clause-size : goal.slice_size-returns-clause-size
slice_size-returns-clause-size g t c =
    let family = g.T.RecursiveSlice.family in
    let s = g.T.RecursiveSlice.sort c.args.messages in
    let m = message_at (family.table s) (g.T.RecursiveSlice.views c.args.messages) c.args.index in
    let all = no_rows family s m c.loop-row.row (omega (
      arith,
      c.loop-row-test.false,
      c.rows-row-end.ensures,
      g.met.T.RecursiveSlice.counted c.args.messages c.args.index,
    )) in
    c.saturate_size.ensures ∙ (measured_all _ _ _ _ _ all c.loop-row.invariant).size

pub slice_size-returns-clause-sizes : goal.slice_size-returns-clause-sizes
slice_size-returns-clause-sizes g t c =
    let family = g.T.RecursiveSlice.family in
    let s = g.T.RecursiveSlice.sort c.args.messages in
    let m = message_at (family.table s) (g.T.RecursiveSlice.views c.args.messages) c.args.index in
    let all = no_rows family s m c.loop-row.row (omega (
      arith,
      c.loop-row-test.false,
      c.rows-row-end.ensures,
      g.met.T.RecursiveSlice.counted c.args.messages c.args.index,
    )) in
    (measured_all _ _ _ _ _ all c.loop-row.invariant).sizes
