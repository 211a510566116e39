use Rattle.std.proofs.Common.{drop}
use Rattle.wire_fields.proofs.Putting.{IsPutTo}
use Rattle.wire_views.specs.Rows.{in_rows}
use Rattle.wire_views.proofs.written_view.WrittenView.write_to.Given as goal

-- the rows so far are written
abbrev pub invariant-loop-place : goal.invariant-loop-place
invariant-loop-place g l =
    let rows = g.Self.WrittenView.rows l.fn.self in
    IsPutTo (in_rows rows) (in_rows (drop l.place rows)) l.fn.cache l.cache
    (g.S.EncodeSink.held l.fn.sink) (g.S.EncodeSink.held l.sink)
