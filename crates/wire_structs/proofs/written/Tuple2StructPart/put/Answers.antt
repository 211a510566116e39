use Rattle.std.proofs.lemmas.Result.{err_from_is_err_and}
use Rattle.wire_structs.proofs.written.Tuple2StructPart.put.Goals as goal

pub returns-in_err-put : goal.returns-in_err-put
returns-in_err-put g c =
    let e = err_from_is_err_and c.from_residual.result c.from_residual.ensures.1 in
    let pieces = c.piece_by_piece.ensures in
    rw (e.1, e.2) (pieces.refused _ _ _ _ _ _ _ _ (pieces.start _ _)
    (c.joined_records_add_up.ensures.text (g.A.StructPart.records c.args.self.now.0)
    (g.B.StructPart.records c.args.self.now.1)) c.in_err-put.ensures)

pub returns : goal.returns
returns g c =
    let pieces = c.piece_by_piece.ensures in
    let one = pieces.more _ _ _ _ _ _ _ tt (pieces.start _ _)
    (c.joined_records_add_up.ensures.text (g.A.StructPart.records c.args.self.now.0)
    (g.B.StructPart.records c.args.self.now.1)) c.in_ok-put.ensures in
    pieces.last _ _ _ _ _ _ one c.put-2.ensures
