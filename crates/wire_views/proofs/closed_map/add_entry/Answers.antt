use Rattle.std.proofs.Common.{refl}
use Rattle.wire_views.proofs.MapEntries.{entry_more}
use Rattle.wire_views.proofs.closed_map.add_entry.Goals as goal

pub returns-in_ok-push_entry-in-Known-clause-ok : goal.returns-in_ok-push_entry-in-Known-clause-ok
returns-in_ok-push_entry-in-Known-clause-ok g c =
    let (charge, fits, left, entry) = c.in_ok-entry.ensures.ok in (
      charge,
      fits,
      left,
      _,
      _,
      entry,
      (
        (_, c.in-Known.is),
        entry_more g.K.MapKey.view (λ v. v) g.K.MapKey.order _ _ _ _
            (c.in_ok-push_entry-in-Known).ensures.ok,
      ),
    )

pub returns-in-Unknown-clause-ok : goal.returns-in-Unknown-clause-ok
returns-in-Unknown-clause-ok g c =
    let (charge, fits, left, entry) = c.in_ok-entry.ensures.ok in
    (charge, fits, left, _, _, entry, ((_, c.in-Unknown.is), refl))
