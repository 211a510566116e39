use Rattle.std.proofs.lemmas.Result.{err_from_is_err_and}
use Rattle.wire_fields.proofs.Messages.{next_message}
use Rattle.wire_fields.proofs.Putting as put
use Rattle.wire_views.proofs.written_message.put_each.Goals as goal

pub returns-in_err-put-clause-written : goal.returns-in_err-put-clause-written
returns-in_err-put-clause-written g c =
    let p = err_from_is_err_and c.from_residual.result c.from_residual.ensures.1 in
    rw (p.1, p.2) (put.refused c.joined_records_add_up.ensures _ _ _ _ _ _ _ _
    c.loop-message.invariant (next_message g.E.ViewEncoding.encoding g.M.MessageView.records
    g.M.MessageView.view c.args.number c.args.messages.now c.loop-message.message-index _
    c.loop-message-test.true c.message-item.is) c.piece_by_piece.ensures _ _
    c.in_err-put.ensures.written)

pub loop-message-preserved : goal.loop-message-preserved
loop-message-preserved g c =
    put.more c.joined_records_add_up.ensures _ _ _ _ _ _ _ _ c.loop-message.invariant
    (next_message g.E.ViewEncoding.encoding g.M.MessageView.records g.M.MessageView.view c.args.number
    c.args.messages.now c.loop-message.message-index _ c.loop-message-test.true c.message-item.is)
    c.piece_by_piece.ensures _ _ tt c.in_ok-put.ensures.written c.in_ok-put.ensures.read
