use Rattle.std.proofs.Common.{◌∙◌, arith}
use Rattle.wire_structs.proofs.Writing.{messages_more, messages_counted}
use Rattle.wire_structs.proofs.written_lists.messages_len.Goals as goal

pub loop-message-preserved : goal.loop-message-preserved
loop-message-preserved g c = record {
  fits = omega arith;
  counted = messages_more g.M.WrittenStruct.records g.M.WrittenStruct.value c.args.number
      c.joined_records_add_up.ensures c.args.messages.now c.loop-message.message-index
      c.loop-message.size c.message_len.result _ _ c.loop-message-test.true c.message-item.is
      c.message_len.ensures c.saturating_add-size.ensures
      ∙ c.loop-message.invariant.counted;
}

pub returns : goal.returns
returns g c =
    messages_counted g.M.WrittenStruct.records g.M.WrittenStruct.value c.args.number
    c.joined_records_add_up.ensures c.args.messages.now c.loop-message.message-index
    c.loop-message.size c.loop-message-test.false c.loop-message.invariant.fits
    c.loop-message.invariant.counted
