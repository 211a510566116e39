use Rattle.wire_views.proofs.Owning.{owned_more, owned_all}
use Rattle.wire_views.proofs.repeated.own_each.Goals as goal

pub loop-value-preserved : goal.loop-value-preserved
loop-value-preserved g c =
    owned_more g.S.ViewScalar.view g.S.ViewScalar.owned _ _ _ c.loop-value.value-index _ _
    c.loop-value.invariant
    c.loop-value-test.true c.value-item.is c.in_ok-copy.ensures c.in_ok-push.ensures.items

pub returns-clause-ok : goal.returns-clause-ok
returns-clause-ok g c =
    owned_all g.S.ViewScalar.view _ _ c.loop-value.value-index c.loop-value.invariant
    c.loop-value-test.false
