use Rattle.std.proofs.Common.{refl}
use Rattle.std.proofs.lemmas.Result.{err_from_is_err_and}
use Rattle.wire_fields.proofs.Putting.{group_parts}
use Rattle.wire_views.proofs.encoding.DelimitedViewEncoding.put.Goals as goal

pub returns-in_err-put_group_start-clause-written :
    goal.returns-in_err-put_group_start-clause-written
returns-in_err-put_group_start-clause-written g c =
    let p = err_from_is_err_and c.from_residual.result c.from_residual.ensures.1 in
    let rs = g.M.MessageView.records (g.M.MessageView.view c.args.message.now) in
    let pieces = c.piece_by_piece.ensures in
    rw (p.1, p.2) (pieces.refused _ _ _ _ _ _ _ _ (pieces.start _ _)
    (group_parts c.args.number rs) c.in_err-put_group_start.ensures)

pub returns-in_err-write_to-clause-written : goal.returns-in_err-write_to-clause-written
returns-in_err-write_to-clause-written g c =
    let r = c.from_residual-in_err-write_to in
    let p = err_from_is_err_and r.result r.ensures.1 in
    let rs = g.M.MessageView.records (g.M.MessageView.view c.args.message.now) in
    let pieces = c.piece_by_piece.ensures in
    let begun = pieces.more _ _ _ _ _ _ _ tt (pieces.start _ _)
    (group_parts c.args.number rs) c.in_ok-put_group_start.ensures in
    rw (p.1, p.2) (pieces.refused _ _ _ _ _ _ _ _ begun refl c.in_err-write_to.ensures.written)

pub returns-clause-written : goal.returns-clause-written
returns-clause-written g c =
    let rs = g.M.MessageView.records (g.M.MessageView.view c.args.message.now) in
    let pieces = c.piece_by_piece.ensures in
    let begun = pieces.more _ _ _ _ _ _ _ tt (pieces.start _ _)
    (group_parts c.args.number rs) c.in_ok-put_group_start.ensures in
    let inside = pieces.more _ _ _ _ _ _ _ tt begun refl c.in_ok-write_to.ensures.written in
    pieces.last _ _ _ _ _ c.put_group_end.result inside c.put_group_end.ensures
