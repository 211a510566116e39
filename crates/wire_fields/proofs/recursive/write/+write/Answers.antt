use Rattle.std.proofs.Common.{◌<◌, ◌∙◌, length, rules, arith, subst, refl, sym, ap, List, ℕ}
use Rattle.std.proofs.lemmas.Result.{err_from_is_err_and}
use Rattle.wire_codec.specs.Records.{text}
use Rattle.wire_codec.specs.Sizes.{sizes}
use Rattle.wire_codec.specs.Writes.{IsWrittenTo}
use Rattle.wire_fields.specs.Messages.{message_each}
use Rattle.wire_fields.specs.Nest.{nodes, all_nodes, row_count, row_less, message_less}
use Rattle.wire_fields.specs.NestTable.{empty_of, encoding_of, message_at, family_records, records_at}
use Rattle.wire_fields.proofs.Nests.{next_at, all_at, none_at, first_run, next_row, next_run}
use Rattle.wire_fields.proofs.Nests.{no_rows}
use Rattle.wire_fields.proofs.Putting as put
use Rattle.wire_fields.proofs.Putting.{embedded_parts, read_size, group_parts}
use Rattle.wire_fields.proofs.recursive.write.+write.Goals as goal

-- ---- an embedded message

pub put_embedded-returns-in_err-put_len_delimited_header-clause-written :
    goal.put_embedded-returns-in_err-put_len_delimited_header-clause-written
put_embedded-returns-in_err-put_len_delimited_header-clause-written g t c =
    let p = err_from_is_err_and c.from_residual.result c.from_residual.ensures.1 in
    let rs = records_at g.T.RecursiveSlice.family (g.T.RecursiveSlice.sort c.args.messages)
    (g.T.RecursiveSlice.views c.args.messages) c.args.index in
    let len = c.from.ensures ∙ read_size c.args.number _ rs c.args.cache.now
    c.consume_next-len.new.self c.requires.sizes c.consume_next-len.ensures.next in
    let pieces = c.piece_by_piece.ensures in
    rw (p.1, p.2) (pieces.refused _ _ _ _ _ _ _ _ (pieces.start _ _)
    (embedded_parts c.args.number _ rs len) c.in_err-put_len_delimited_header.ensures)

pub put_embedded-returns-clause-written : goal.put_embedded-returns-clause-written
put_embedded-returns-clause-written g t c =
    let rs = records_at g.T.RecursiveSlice.family (g.T.RecursiveSlice.sort c.args.messages)
    (g.T.RecursiveSlice.views c.args.messages) c.args.index in
    let len = c.from.ensures ∙ read_size c.args.number _ rs c.args.cache.now
    c.consume_next-len.new.self c.requires.sizes c.consume_next-len.ensures.next in
    let pieces = c.piece_by_piece.ensures in
    let header = pieces.more _ _ _ _ _ _ _ tt (pieces.start _ _)
    (embedded_parts c.args.number _ rs len) c.in_ok-put_len_delimited_header.ensures in
    pieces.last _ _ _ _ _ c.write_slice.result header c.write_slice.ensures.written

-- ---- a group

pub put_grouped-returns-in_err-put_group_start-clause-written :
    goal.put_grouped-returns-in_err-put_group_start-clause-written
put_grouped-returns-in_err-put_group_start-clause-written g t c =
    let p = err_from_is_err_and c.from_residual.result c.from_residual.ensures.1 in
    let rs = records_at g.T.RecursiveSlice.family (g.T.RecursiveSlice.sort c.args.messages)
    (g.T.RecursiveSlice.views c.args.messages) c.args.index in
    let pieces = c.piece_by_piece.ensures in
    rw (p.1, p.2) (pieces.refused _ _ _ _ _ _ _ _ (pieces.start _ _)
    (group_parts c.args.number rs) c.in_err-put_group_start.ensures)

pub put_grouped-returns-in_err-write_slice-clause-written :
    goal.put_grouped-returns-in_err-write_slice-clause-written
put_grouped-returns-in_err-write_slice-clause-written g t c =
    let r = c.from_residual-in_err-write_slice in
    let p = err_from_is_err_and r.result r.ensures.1 in
    let rs = records_at g.T.RecursiveSlice.family (g.T.RecursiveSlice.sort c.args.messages)
    (g.T.RecursiveSlice.views c.args.messages) c.args.index in
    let pieces = c.piece_by_piece.ensures in
    let begun = pieces.more _ _ _ _ _ _ _ tt (pieces.start _ _)
    (group_parts c.args.number rs) c.in_ok-put_group_start.ensures in
    rw (p.1, p.2) (pieces.refused _ _ _ _ _ _ _ _ begun refl
    c.in_err-write_slice.ensures.written)

pub put_grouped-returns-clause-written : goal.put_grouped-returns-clause-written
put_grouped-returns-clause-written g t c =
    let rs = records_at g.T.RecursiveSlice.family (g.T.RecursiveSlice.sort c.args.messages)
    (g.T.RecursiveSlice.views c.args.messages) c.args.index in
    let pieces = c.piece_by_piece.ensures in
    let begun = pieces.more _ _ _ _ _ _ _ tt (pieces.start _ _)
    (group_parts c.args.number rs) c.in_ok-put_group_start.ensures in
    let inside = pieces.more _ _ _ _ _ _ _ tt begun refl c.in_ok-write_slice.ensures.written in
    pieces.last _ _ _ _ _ c.put_group_end.result inside c.put_group_end.ensures

-- ---- a row

pub put_row-returns-then-count-eq0-clause-written : goal.put_row-returns-then-count-eq0-clause-written
put_row-returns-then-count-eq0-clause-written g t c =
    let none = none_at (encoding_of c.args.grouped)
    (family_records g.T.RecursiveSlice.family (g.T.RecursiveSlice.sort c.args.messages))
    c.args.number (g.T.RecursiveSlice.views c.args.messages)
    (sym c.count.ensures ∙ c.if-count-eq0.true) in
    rw none (search rules)

pub put_row-returns-then-count-eq0-clause-read : goal.put_row-returns-then-count-eq0-clause-read
put_row-returns-then-count-eq0-clause-read g t c =
    let none = none_at (encoding_of c.args.grouped)
    (family_records g.T.RecursiveSlice.family (g.T.RecursiveSlice.sort c.args.messages))
    c.args.number (g.T.RecursiveSlice.views c.args.messages)
    (sym c.count.ensures ∙ c.if-count-eq0.true) in
    rw none (search rules)

pub put_each-put_message-requires : goal.put_each-put_message-requires
put_each-put_message-requires g t c κs within =
    let family = g.T.RecursiveSlice.family in
    let s = g.T.RecursiveSlice.sort c.args.messages in
    let ms = g.T.RecursiveSlice.views c.args.messages in
    let there : c.loop-index.index < length ms =
    omega (arith, c.loop-index-test.true, c.count-index-end.ensures) in
    let less = message_less ms c.loop-index.index (empty_of (family.table s)) there in
    let joins = c.joined_records_add_up.ensures in
    let parts = next_at (family.table s) (encoding_of c.args.grouped)
    (family_records family s) c.args.number ms
    c.loop-index.index there in (
      omega (arith, less),
      (
        search rules,
        (
          search rules,
          (
            c.requires.number,
            (
              there,
              (
                put.part_next joins _ _ _ _ _ _ _ _ c.loop-index.invariant parts,
                put.part_small joins _ _ _ _ _ _ _ _ c.loop-index.invariant parts,
              ),
            ),
          ),
        ),
      ),
    )

pub put_each-returns-in_err-put_message-clause-written :
    goal.put_each-returns-in_err-put_message-clause-written
put_each-returns-in_err-put_message-clause-written g t c =
    let family = g.T.RecursiveSlice.family in
    let s = g.T.RecursiveSlice.sort c.args.messages in
    let p = err_from_is_err_and c.from_residual.result c.from_residual.ensures.1 in
    rw (p.1, p.2) (put.refused c.joined_records_add_up.ensures _ _ _ _ _ _ _ _
    c.loop-index.invariant (next_at (family.table s) (encoding_of c.args.grouped)
    (family_records family s)
    c.args.number (g.T.RecursiveSlice.views c.args.messages) c.loop-index.index
    (omega (arith, c.loop-index-test.true, c.count-index-end.ensures)))
    c.piece_by_piece.ensures _ _ c.in_err-put_message.ensures.written)

pub put_each-loop-index-preserved : goal.put_each-loop-index-preserved
put_each-loop-index-preserved g t c =
    let family = g.T.RecursiveSlice.family in
    let s = g.T.RecursiveSlice.sort c.args.messages in
    put.more c.joined_records_add_up.ensures _ _ _ _ _ _ _ _ c.loop-index.invariant
    (next_at (family.table s) (encoding_of c.args.grouped) (family_records family s) c.args.number
    (g.T.RecursiveSlice.views c.args.messages) c.loop-index.index
    (omega (arith, c.loop-index-test.true, c.count-index-end.ensures))) c.piece_by_piece.ensures _ _
    tt c.in_ok-put_message.ensures.written c.in_ok-put_message.ensures.read

pub put_each-returns-clause-written : goal.put_each-returns-clause-written
put_each-returns-clause-written g t c =
    let family = g.T.RecursiveSlice.family in
    let s = g.T.RecursiveSlice.sort c.args.messages in
    let ms = g.T.RecursiveSlice.views c.args.messages in
    let all = all_at (encoding_of c.args.grouped) (family_records family s) c.args.number ms
    c.loop-index.index (omega (arith, c.loop-index-test.false, c.count-index-end.ensures)) in
    c.piece_by_piece.ensures.done _ _ _ (subst (λ (b : List ℕ). IsWrittenTo
    (text (message_each (encoding_of c.args.grouped) (family_records family s) c.args.number ms))
    (g.S.EncodeSink.held c.args.sink.now) (g.S.EncodeSink.held c.loop-index.sink) b)
    (ap text all) c.loop-index.invariant.written)

pub put_each-returns-clause-read : goal.put_each-returns-clause-read
put_each-returns-clause-read g t c =
    let family = g.T.RecursiveSlice.family in
    let s = g.T.RecursiveSlice.sort c.args.messages in
    let all = all_at (encoding_of c.args.grouped) (family_records family s) c.args.number
    (g.T.RecursiveSlice.views c.args.messages) c.loop-index.index
    (omega (arith, c.loop-index-test.false, c.count-index-end.ensures)) in
    put.all_read _ _ _ _ _ _ c.loop-index.invariant (ap sizes all)

-- ---- a message

pub write_slice-put_run-requires-clause-sizes : goal.write_slice-put_run-requires-clause-sizes
write_slice-put_run-requires-clause-sizes g t c =
    let family = g.T.RecursiveSlice.family in
    let s = g.T.RecursiveSlice.sort c.args.messages in
    let m = message_at (family.table s) (g.T.RecursiveSlice.views c.args.messages) c.args.index in
    put.part_next c.joined_records_add_up.ensures _ _ _ _ _ _
    (g.S.EncodeSink.held c.args.sink.now) _
    (put.start c.piece_by_piece.ensures _ _ _ c.requires.sizes c.requires.size)
    (first_run family s m)

pub write_slice-returns-in_err-put_run-clause-written :
    goal.write_slice-returns-in_err-put_run-clause-written
write_slice-returns-in_err-put_run-clause-written g t c =
    let family = g.T.RecursiveSlice.family in
    let s = g.T.RecursiveSlice.sort c.args.messages in
    let m = message_at (family.table s) (g.T.RecursiveSlice.views c.args.messages) c.args.index in
    let p = err_from_is_err_and c.from_residual.result c.from_residual.ensures.1 in
    let pieces = c.piece_by_piece.ensures in
    rw (p.1, p.2) (put.refused c.joined_records_add_up.ensures _ _ _ _ _ _ _ _
    (put.start pieces _ _ _ c.requires.sizes c.requires.size)
    (first_run family s m) pieces _ _
    c.in_err-put_run.ensures.written)

pub write_slice-loop-row-init : goal.write_slice-loop-row-init
write_slice-loop-row-init g t c =
    let family = g.T.RecursiveSlice.family in
    let s = g.T.RecursiveSlice.sort c.args.messages in
    let m = message_at (family.table s) (g.T.RecursiveSlice.views c.args.messages) c.args.index in
    let pieces = c.piece_by_piece.ensures in
    put.more c.joined_records_add_up.ensures _ _ _ _ _ _ _ _
    (put.start pieces _ _ _ c.requires.sizes c.requires.size)
    (first_run family s m) pieces _ _ tt
    c.in_ok-put_run.ensures.written c.in_ok-put_run.ensures.read

pub write_slice-put_row-requires : goal.write_slice-put_row-requires
write_slice-put_row-requires g t c κs within =
    let joins = c.joined_records_add_up.ensures in
    let family = g.T.RecursiveSlice.family in
    let s = g.T.RecursiveSlice.sort c.args.messages in
    let m = message_at (family.table s) (g.T.RecursiveSlice.views c.args.messages) c.args.index in
    let less : all_nodes (g.T.RecursiveSlice.views c.row.result) < nodes m =
    row_less _ _ _ c.row.ensures.messages in
    let here : c.loop-row.row < row_count m = omega (
      arith,
      c.loop-row-test.true,
      c.rows-row-end.ensures,
      g.met.T.RecursiveSlice.counted c.args.messages c.args.index,
    ) in
    let parts = next_row family s m c.loop-row.row _ _ _ _ here c.number-number.ensures.is
    c.is_grouped-grouped.ensures c.row.ensures.sort c.row.ensures.messages in (
      omega (arith, less),
      (
        search rules,
        (
          search rules,
          (
            c.number-number.ensures.in_range,
            (
              put.part_next joins _ _ _ _ _ _ _ _ c.loop-row.invariant parts,
              put.part_small joins _ _ _ _ _ _ _ _ c.loop-row.invariant parts,
            ),
          ),
        ),
      ),
    )

pub write_slice-returns-in_err-put_row-clause-written :
    goal.write_slice-returns-in_err-put_row-clause-written
write_slice-returns-in_err-put_row-clause-written g t c =
    let r = c.from_residual-in_err-put_row in
    let p = err_from_is_err_and r.result r.ensures.1 in
    let family = g.T.RecursiveSlice.family in
    let s = g.T.RecursiveSlice.sort c.args.messages in
    let m = message_at (family.table s) (g.T.RecursiveSlice.views c.args.messages) c.args.index in
    let here : c.loop-row.row < row_count m = omega (
      arith,
      c.loop-row-test.true,
      c.rows-row-end.ensures,
      g.met.T.RecursiveSlice.counted c.args.messages c.args.index,
    ) in
    rw (p.1, p.2) (put.refused c.joined_records_add_up.ensures _ _ _ _ _ _ _ _
    c.loop-row.invariant (next_row family s m c.loop-row.row _ _ _ _ here
    c.number-number.ensures.is c.is_grouped-grouped.ensures c.row.ensures.sort
    c.row.ensures.messages) c.piece_by_piece.ensures _ _
    c.in_err-put_row.ensures.written)

pub write_slice-put_run-requires-in-loop-row-clause-sizes :
    goal.write_slice-put_run-requires-in-loop-row-clause-sizes
write_slice-put_run-requires-in-loop-row-clause-sizes g t c =
    let joins = c.joined_records_add_up.ensures in
    let family = g.T.RecursiveSlice.family in
    let s = g.T.RecursiveSlice.sort c.args.messages in
    let m = message_at (family.table s) (g.T.RecursiveSlice.views c.args.messages) c.args.index in
    let here : c.loop-row.row < row_count m = omega (
      arith,
      c.loop-row-test.true,
      c.rows-row-end.ensures,
      g.met.T.RecursiveSlice.counted c.args.messages c.args.index,
    ) in
    let put_it = put.more joins _ _ _ _ _ _ _ _ c.loop-row.invariant
    (next_row family s m c.loop-row.row _ _ _ _ here c.number-number.ensures.is
    c.is_grouped-grouped.ensures c.row.ensures.sort c.row.ensures.messages)
    c.piece_by_piece.ensures _ _ tt c.in_ok-put_row.ensures.written c.in_ok-put_row.ensures.read in
    put.part_next joins _ _ _ _ _ _ _ _ put_it (next_run family s m c.loop-row.row)

pub write_slice-put_run-requires-in-loop-row-clause-size :
    goal.write_slice-put_run-requires-in-loop-row-clause-size
write_slice-put_run-requires-in-loop-row-clause-size g t c =
    let joins = c.joined_records_add_up.ensures in
    let family = g.T.RecursiveSlice.family in
    let s = g.T.RecursiveSlice.sort c.args.messages in
    let m = message_at (family.table s) (g.T.RecursiveSlice.views c.args.messages) c.args.index in
    let here : c.loop-row.row < row_count m = omega (
      arith,
      c.loop-row-test.true,
      c.rows-row-end.ensures,
      g.met.T.RecursiveSlice.counted c.args.messages c.args.index,
    ) in
    let put_it = put.more joins _ _ _ _ _ _ _ _ c.loop-row.invariant
    (next_row family s m c.loop-row.row _ _ _ _ here c.number-number.ensures.is
    c.is_grouped-grouped.ensures c.row.ensures.sort c.row.ensures.messages)
    c.piece_by_piece.ensures _ _ tt c.in_ok-put_row.ensures.written c.in_ok-put_row.ensures.read in
    put.part_small joins _ _ _ _ _ _ _ _ put_it (next_run family s m c.loop-row.row)

pub write_slice-returns-in_err-put_run-2-clause-written :
    goal.write_slice-returns-in_err-put_run-2-clause-written
write_slice-returns-in_err-put_run-2-clause-written g t c =
    let r = c.from_residual-in_err-put_run-2 in
    let p = err_from_is_err_and r.result r.ensures.1 in
    let joins = c.joined_records_add_up.ensures in
    let family = g.T.RecursiveSlice.family in
    let s = g.T.RecursiveSlice.sort c.args.messages in
    let m = message_at (family.table s) (g.T.RecursiveSlice.views c.args.messages) c.args.index in
    let here : c.loop-row.row < row_count m = omega (
      arith,
      c.loop-row-test.true,
      c.rows-row-end.ensures,
      g.met.T.RecursiveSlice.counted c.args.messages c.args.index,
    ) in
    let put_it = put.more joins _ _ _ _ _ _ _ _ c.loop-row.invariant
    (next_row family s m c.loop-row.row _ _ _ _ here c.number-number.ensures.is
    c.is_grouped-grouped.ensures c.row.ensures.sort c.row.ensures.messages)
    c.piece_by_piece.ensures _ _ tt c.in_ok-put_row.ensures.written c.in_ok-put_row.ensures.read in
    rw (p.1, p.2) (put.refused joins _ _ _ _ _ _ _ _ put_it
    (next_run family s m c.loop-row.row) c.piece_by_piece.ensures _ _
    c.in_err-put_run-2.ensures.written)

pub write_slice-loop-row-preserved : goal.write_slice-loop-row-preserved
write_slice-loop-row-preserved g t c =
    let joins = c.joined_records_add_up.ensures in
    let family = g.T.RecursiveSlice.family in
    let s = g.T.RecursiveSlice.sort c.args.messages in
    let m = message_at (family.table s) (g.T.RecursiveSlice.views c.args.messages) c.args.index in
    let here : c.loop-row.row < row_count m = omega (
      arith,
      c.loop-row-test.true,
      c.rows-row-end.ensures,
      g.met.T.RecursiveSlice.counted c.args.messages c.args.index,
    ) in
    let put_it = put.more joins _ _ _ _ _ _ _ _ c.loop-row.invariant
    (next_row family s m c.loop-row.row _ _ _ _ here c.number-number.ensures.is
    c.is_grouped-grouped.ensures c.row.ensures.sort c.row.ensures.messages)
    c.piece_by_piece.ensures _ _ tt c.in_ok-put_row.ensures.written c.in_ok-put_row.ensures.read in
    put.more joins _ _ _ _ _ _ _ _ put_it (next_run family s m c.loop-row.row)
    c.piece_by_piece.ensures _ _ tt c.in_ok-put_run-2.ensures.written
    c.in_ok-put_run-2.ensures.read

pub write_slice-returns-clause-written : goal.write_slice-returns-clause-written
write_slice-returns-clause-written g t c =
    let family = g.T.RecursiveSlice.family in
    let s = g.T.RecursiveSlice.sort c.args.messages in
    let m = message_at (family.table s) (g.T.RecursiveSlice.views c.args.messages) c.args.index in
    let all = no_rows family s m c.loop-row.row (omega (
      arith,
      c.loop-row-test.false,
      c.rows-row-end.ensures,
      g.met.T.RecursiveSlice.counted c.args.messages c.args.index,
    )) in
    c.piece_by_piece.ensures.done _ _ _ (subst (λ (b : List ℕ). IsWrittenTo
    (text (family_records family s m))
    (g.S.EncodeSink.held c.args.sink.now) (g.S.EncodeSink.held c.loop-row.sink) b)
    (ap text all) c.loop-row.invariant.written)

pub write_slice-returns-clause-read : goal.write_slice-returns-clause-read
write_slice-returns-clause-read g t c =
    let family = g.T.RecursiveSlice.family in
    let s = g.T.RecursiveSlice.sort c.args.messages in
    let m = message_at (family.table s) (g.T.RecursiveSlice.views c.args.messages) c.args.index in
    let all = no_rows family s m c.loop-row.row (omega (
      arith,
      c.loop-row-test.false,
      c.rows-row-end.ensures,
      g.met.T.RecursiveSlice.counted c.args.messages c.args.index,
    )) in
    put.all_read _ _ _ _ _ _ c.loop-row.invariant (ap sizes all)
