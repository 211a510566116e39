use Rattle.wire_views.proofs.Owning.{owned_more, owned_all}
use Rattle.wire_views.proofs.message_field.own_each.Goals as goal

pub loop-message-preserved : goal.loop-message-preserved
loop-message-preserved g c =
    owned_more g.M.MessageView.view g.M.MessageView.owned _ _ _ c.loop-message.message-index _ _
    c.loop-message.invariant
    c.loop-message-test.true c.message-item.is c.in_ok-copy.ensures.ok c.in_ok-push.ensures.items

pub returns-clause-ok : goal.returns-clause-ok
returns-clause-ok g c =
    owned_all g.M.MessageView.view _ _ c.loop-message.message-index c.loop-message.invariant
    c.loop-message-test.false
