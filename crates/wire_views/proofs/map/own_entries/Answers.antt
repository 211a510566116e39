use Rattle.wire_views.proofs.MapEntries.{owned_entries, owned_entry}
use Rattle.wire_views.proofs.map.own_entries.Goals as goal

pub loop-entry-preserved : goal.loop-entry-preserved
loop-entry-preserved g c =
    owned_entry g.K.MapKey.view g.V.ViewKind.view g.K.MapKey.owned g.V.ViewKind.owned
    _ g.K.MapKey.order g.met.K.MapKey.same_order _ _ _ c.loop-entry.entry-index _ _ _
    c.loop-entry.invariant c.loop-entry-test.true c.entry-item.is
    c.in_ok-key.ensures c.in_ok-value.ensures.ok c.in_ok-insert.ensures.ok

pub returns-clause-ok : goal.returns-clause-ok
returns-clause-ok g c =
    owned_entries g.K.MapKey.view g.V.ViewKind.view g.K.MapKey.owned g.V.ViewKind.owned
    _ g.K.MapKey.order g.met.K.MapKey.same_order _ _ c.loop-entry.entry-index
    c.loop-entry.invariant c.loop-entry-test.false
