use Rattle.std.proofs.lemmas.Result.{err_from_is_err_and}
use Rattle.wire_fields.proofs.Putting as put
use Rattle.wire_views.specs.Rows.{in_rows}
use Rattle.wire_views.proofs.Rowed.{next_row}
use Rattle.wire_views.proofs.written_view.WrittenView.write_to.Goals as goal

pub loop-place-init : goal.loop-place-init
loop-place-init g c =
    let rows = g.Self.WrittenView.rows c.args.self.now in
    let same = g.met.Self.WrittenView.same_records c.args.self.now in
    put.start c.piece_by_piece.ensures (in_rows rows) c.args.cache.now _
    (rw same c.requires.sizes) (rw same c.requires.size)

pub put_row-requires-clause-sizes : goal.put_row-requires-clause-sizes
put_row-requires-clause-sizes g c =
    put.part_next c.joined_records_add_up.ensures _ _ _ _ _ _ _ _ c.loop-place.invariant
    (next_row (g.Self.WrittenView.rows c.args.self.now) c.loop-place.place)

pub put_row-requires-clause-size : goal.put_row-requires-clause-size
put_row-requires-clause-size g c =
    put.part_small c.joined_records_add_up.ensures _ _ _ _ _ _ _ _ c.loop-place.invariant
    (next_row (g.Self.WrittenView.rows c.args.self.now) c.loop-place.place)

pub returns-in_err-put_row-clause-written : goal.returns-in_err-put_row-clause-written
returns-in_err-put_row-clause-written g c =
    let p = err_from_is_err_and c.from_residual.result c.from_residual.ensures.1 in
    rw (p.1, p.2, ← g.met.Self.WrittenView.same_records c.args.self.now)
    (put.refused c.joined_records_add_up.ensures _ _ _ _ _ _ _ _ c.loop-place.invariant
    (next_row (g.Self.WrittenView.rows c.args.self.now) c.loop-place.place)
    c.piece_by_piece.ensures _ _ c.in_err-put_row.ensures.written)

pub loop-place-preserved : goal.loop-place-preserved
loop-place-preserved g c =
    put.more c.joined_records_add_up.ensures _ _ _ _ _ _ _ _ c.loop-place.invariant
    (next_row (g.Self.WrittenView.rows c.args.self.now) c.loop-place.place)
    c.piece_by_piece.ensures _ _ tt c.in_ok-put_row.ensures.written c.in_ok-put_row.ensures.read
