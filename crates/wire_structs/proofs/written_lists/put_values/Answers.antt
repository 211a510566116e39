use Rattle.std.proofs.lemmas.Result.{err_from_is_err_and}
use Rattle.wire_fields.proofs.Repeating.{next_text, none_left}
use Rattle.wire_structs.proofs.Writing.{scalar_written}
use Rattle.wire_structs.proofs.written_lists.put_values.Goals as goal

pub returns-in_err-put_record : goal.returns-in_err-put_record
returns-in_err-put_record g c =
    let p = err_from_is_err_and c.from_residual.result c.from_residual.ensures.1 in
    rw (p.1, p.2) (c.piece_by_piece.ensures.refused _ _ _ _ _ _ _ _ c.loop-value.invariant
    (next_text g.S.StructScalar.scalar g.S.StructScalar.view c.args.number
    c.joined_records_add_up.ensures c.args.values.now c.loop-value.value-index _
    c.loop-value-test.true c.value-item.is)
    (scalar_written g.S.StructScalar.scalar c.args.number _ _ c.payload.ensures _ _ _
    c.in_err-put_record.ensures))

pub loop-value-preserved : goal.loop-value-preserved
loop-value-preserved g c =
    c.piece_by_piece.ensures.more _ _ _ _ _ _ _ tt c.loop-value.invariant
    (next_text g.S.StructScalar.scalar g.S.StructScalar.view c.args.number
    c.joined_records_add_up.ensures c.args.values.now c.loop-value.value-index _
    c.loop-value-test.true c.value-item.is)
    (scalar_written g.S.StructScalar.scalar c.args.number _ _ c.payload.ensures _ _ _
    c.in_ok-put_record.ensures)

pub returns : goal.returns
returns g c =
    let left = none_left g.S.StructScalar.scalar g.S.StructScalar.view c.args.number
    c.joined_records_add_up.ensures c.args.values.now c.loop-value.value-index
    c.loop-value-test.false in
    c.piece_by_piece.ensures.done _ _ _ (rw left at c.loop-value.invariant)
