use Rattle.std.proofs.Common.{map, drop}
use Rattle.wire_fields.specs.Messages.{message_each}
use Rattle.wire_fields.proofs.Measuring.{IsMeasuredTo}
use Rattle.wire_views.proofs.written_message.each_len.Given as goal

-- the messages so far are measured
abbrev pub invariant-loop-message : goal.invariant-loop-message
invariant-loop-message g l =
    let each = message_each g.E.ViewEncoding.encoding g.M.MessageView.records l.fn.number in
    IsMeasuredTo (each (map g.M.MessageView.view l.fn.messages))
    (each (map g.M.MessageView.view (drop l.message-index l.messages))) l.fn.cache l.cache l.size
