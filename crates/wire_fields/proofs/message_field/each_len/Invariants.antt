use Rattle.std.proofs.Common.{map, drop}
use Rattle.wire_fields.specs.Messages.{message_each}
use Rattle.wire_fields.proofs.Measuring.{IsMeasuredTo}
use Rattle.wire_fields.proofs.message_field.each_len.Given as goal

-- the messages so far are measured
abbrev pub invariant-loop-message : goal.invariant-loop-message
invariant-loop-message g l =
    let each = message_each g.E.MessageEncoding.encoding g.M.Message.records l.fn.number in
    IsMeasuredTo (each (map g.M.Message.view l.fn.messages))
    (each (map g.M.Message.view (drop l.message-index l.messages))) l.fn.cache l.cache l.size
