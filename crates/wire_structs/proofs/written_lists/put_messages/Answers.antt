use Rattle.std.proofs.lemmas.Result.{err_from_is_err_and}
use Rattle.wire_structs.proofs.Writing.{message_small, messages_text, no_message}
use Rattle.wire_structs.proofs.written_lists.put_messages.Goals as goal

pub put_message-requires-clause-size : goal.put_message-requires-clause-size
put_message-requires-clause-size g c =
    (message_small g.M.WrittenStruct.records g.M.WrittenStruct.value c.args.number
    c.joined_records_add_up.ensures c.args.messages.now c.loop-message.message-index _
    c.loop-message-test.true c.message-item.is c.loop-message.invariant.small).0

pub returns-in_err-put_message : goal.returns-in_err-put_message
returns-in_err-put_message g c =
    let p = err_from_is_err_and c.from_residual.result c.from_residual.ensures.1 in
    rw (p.1, p.2) (c.piece_by_piece.ensures.refused _ _ _ _ _ _ _ _
    c.loop-message.invariant.written
    (messages_text g.M.WrittenStruct.records g.M.WrittenStruct.value c.args.number
    c.joined_records_add_up.ensures c.args.messages.now c.loop-message.message-index _
    c.loop-message-test.true c.message-item.is) c.in_err-put_message.ensures)

pub loop-message-preserved : goal.loop-message-preserved
loop-message-preserved g c = record {
  written = c.piece_by_piece.ensures.more _ _ _ _ _ _ _ tt c.loop-message.invariant.written
      (messages_text g.M.WrittenStruct.records g.M.WrittenStruct.value c.args.number
      c.joined_records_add_up.ensures c.args.messages.now c.loop-message.message-index _
      c.loop-message-test.true c.message-item.is) c.in_ok-put_message.ensures;
  small = (message_small g.M.WrittenStruct.records g.M.WrittenStruct.value c.args.number
      c.joined_records_add_up.ensures c.args.messages.now c.loop-message.message-index _
      c.loop-message-test.true c.message-item.is c.loop-message.invariant.small).1;
}

pub returns : goal.returns
returns g c =
    let left = no_message g.M.WrittenStruct.records g.M.WrittenStruct.value c.args.number
    c.joined_records_add_up.ensures c.args.messages.now c.loop-message.message-index
    c.loop-message-test.false in
    c.piece_by_piece.ensures.done _ _ _ (rw left at c.loop-message.invariant.written)
