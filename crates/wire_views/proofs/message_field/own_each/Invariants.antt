use Rattle.std.proofs.Common.{◌≡◌, map, take}
use Rattle.wire_views.proofs.message_field.own_each.Given as goal

abbrev pub invariant-loop-message : goal.invariant-loop-message
invariant-loop-message g l =
    map g.M.MessageView.owned l.copies.items ≡ map g.M.MessageView.view (take l.message-index
    l.messages)
