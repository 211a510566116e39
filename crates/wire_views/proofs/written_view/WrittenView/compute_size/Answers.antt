use Rattle.wire_fields.proofs.Measuring.{start, more}
use Rattle.wire_views.specs.Rows.{in_rows}
use Rattle.wire_views.proofs.Rowed.{next_row}
use Rattle.wire_views.proofs.written_view.WrittenView.compute_size.Goals as goal

pub loop-place-init : goal.loop-place-init
loop-place-init g c =
    let rows = g.Self.WrittenView.rows c.args.self.now in
    start (in_rows rows) c.args.cache.now

pub loop-place-preserved : goal.loop-place-preserved
loop-place-preserved g c =
    more c.joined_records_add_up.ensures _ _ _ _ _ _ _ _ _ _ c.loop-place.invariant
    (next_row (g.Self.WrittenView.rows c.args.self.now) c.loop-place.place)
    c.in_ok-row_len.ensures.ok c.saturating_add-size.ensures
