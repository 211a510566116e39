use Rattle.std.proofs.lemmas.Result.{err_from_is_err_and, on_ok_weaker}
use Rattle.wire_fields.specs.Maps.{entry_default, entry_takes, puts_entry}
use Rattle.wire_fields.specs.Messages.{length_prefixed}
use Rattle.wire_fields.proofs.Messages.{each_taken, no_room, no_more}
use Rattle.wire_views.proofs.MapEntries.{entry_more}
use Rattle.wire_views.proofs.map.MapInViewKind.merge.Goals as goal

pub returns-in_err-register_element_memory-clause-err :
    goal.returns-in_err-register_element_memory-clause-err
returns-in_err-register_element_memory-clause-err g c =
    let p = err_from_is_err_and c.from_residual.result c.from_residual.ensures.1 in
    let start = entry_default g.K.MapKey.scalar g.V.ViewKind.kind in
    rw (p.1, p.2) (λ other. no_room g.row.PLACE length_prefixed
    (entry_takes g.K.MapKey.scalar g.V.ViewKind.kind) start (puts_entry g.K.MapKey.order)
    c.limits_add_up.ensures
    _ _ _ _ start _ (λ i. start)
    c.in_err-register_element_memory.ensures.none_left)

pub returns-in_err-merge-clause-err : goal.returns-in_err-merge-clause-err
returns-in_err-merge-clause-err g c =
    let r = c.from_residual-in_err-merge in
    let p = err_from_is_err_and r.result r.ensures.1 in
    let start = entry_default g.K.MapKey.scalar g.V.ViewKind.kind in
    rw (p.1, p.2) (λ other. no_more g.row.PLACE length_prefixed
    (entry_takes g.K.MapKey.scalar g.V.ViewKind.kind) start (puts_entry g.K.MapKey.order)
    c.limits_add_up.ensures
    _ _ _ _ _ _ c.default_view-entry.ensures _
    c.in_ok-register_element_memory.ensures.ok (c.in_err-merge.ensures.err other))

pub returns-clause-ok : goal.returns-clause-ok
returns-clause-ok g c =
    let start = entry_default g.K.MapKey.scalar g.V.ViewKind.kind in
    on_ok_weaker c.push_entry.result (λ pushed. each_taken g.row.PLACE length_prefixed
    (entry_takes g.K.MapKey.scalar g.V.ViewKind.kind) start (puts_entry g.K.MapKey.order)
    c.limits_add_up.ensures
    _ _ _ _ _ _ c.default_view-entry.ensures _ _ _ _ _ c.in_ok-register_element_memory.ensures.ok
    c.in_ok-register_element_memory.ensures.taken
    (entry_more g.K.MapKey.view g.V.ViewKind.view g.K.MapKey.order _ _ _ _ pushed)
    c.in_ok-merge.ensures.ok) c.push_entry.ensures.ok
