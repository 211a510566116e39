use Rattle.std.proofs.lemmas.Result.{err_from_is_err_and}
use Rattle.wire_structs.proofs.KeptTexts.{text-with_fields}
use Rattle.wire_structs.specs.Unknown.{unowned}
use Rattle.wire_structs.proofs.keeping.put_keeping.Goals as goal

pub returns-in_err-put : goal.returns-in_err-put
returns-in_err-put g c = λ fs h.
    let e = err_from_is_err_and c.from_residual.result c.from_residual.ensures.1 in
    let pieces = c.piece_by_piece.ensures in
    rw (e.1, e.2) (pieces.refused _ _ _ _ _ _ _ _ (pieces.start _ _)
    (text-with_fields _ (unowned g.M.FieldNumbers.owns fs)) c.in_err-put.ensures)

pub returns : goal.returns
returns g c = λ fs h.
    let pieces = c.piece_by_piece.ensures in
    let one = pieces.more _ _ _ _ _ _ _ tt (pieces.start _ _)
    (text-with_fields _ (unowned g.M.FieldNumbers.owns fs)) c.in_ok-put.ensures in
    pieces.last _ _ _ _ _ _ one (c.put_unknown.ensures fs h)
