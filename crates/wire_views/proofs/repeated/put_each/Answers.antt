use Rattle.std.proofs.lemmas.Result.{err_from_is_err_and}
use Rattle.wire_fields.proofs.Repeating.{next_text, none_left}
use Rattle.wire_views.proofs.repeated.put_each.Goals as goal

pub returns-in_err-put : goal.returns-in_err-put
returns-in_err-put g c =
    let p = err_from_is_err_and c.from_residual.result c.from_residual.ensures.1 in
    rw (p.1, p.2) (c.piece_by_piece.ensures.refused _ _ _ _ _ _ _ _ c.loop-value.invariant
    (next_text g.S.ViewScalar.scalar g.S.ViewScalar.view c.args.number c.joined_records_add_up.ensures
    c.args.values.now c.loop-value.value-index _ c.loop-value-test.true c.value-item.is)
    c.in_err-put.ensures)

pub loop-value-preserved : goal.loop-value-preserved
loop-value-preserved g c =
    c.piece_by_piece.ensures.more _ _ _ _ _ _ _ tt c.loop-value.invariant
    (next_text g.S.ViewScalar.scalar g.S.ViewScalar.view c.args.number c.joined_records_add_up.ensures
    c.args.values.now c.loop-value.value-index _ c.loop-value-test.true c.value-item.is)
    c.in_ok-put.ensures

pub returns : goal.returns
returns g c =
    let left = none_left g.S.ViewScalar.scalar g.S.ViewScalar.view c.args.number
    c.joined_records_add_up.ensures c.args.values.now c.loop-value.value-index
    c.loop-value-test.false in
    c.piece_by_piece.ensures.done _ _ _ (rw left at c.loop-value.invariant)
