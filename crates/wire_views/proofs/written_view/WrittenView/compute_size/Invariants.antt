use Rattle.std.proofs.Common.{drop}
use Rattle.wire_fields.proofs.Measuring.{IsMeasuredTo}
use Rattle.wire_views.specs.Rows.{in_rows}
use Rattle.wire_views.proofs.written_view.WrittenView.compute_size.Given as goal

-- the rows so far are measured
abbrev pub invariant-loop-place : goal.invariant-loop-place
invariant-loop-place g l =
    let rows = g.Self.WrittenView.rows l.fn.self in
    IsMeasuredTo (in_rows rows) (in_rows (drop l.place rows)) l.fn.cache l.cache
    l.size
