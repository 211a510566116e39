use Rattle.std.proofs.Common.{refl, ap, ◌∙◌}
use Rattle.std.proofs.lemmas.Result.{err_from_is_err_and, on_ok_weaker}
use Rattle.wire_fields.specs.Maps.{puts_entry, viewed}
use Rattle.wire_fields.specs.Numbers.{numeric}
use Rattle.wire_fields.proofs.Maps.{entry_put, no_entry, viewed_insert}
use Rattle.wire_fields.proofs.map.MapNumericKind.merge.Goals as goal

pub returns-in_err-entry-clause-err : goal.returns-in_err-entry-clause-err
returns-in_err-entry-clause-err g c =
    let p = err_from_is_err_and c.from_residual.result c.from_residual.ensures.1 in
    rw (p.1, p.2) (λ other. no_entry g.row.PLACE (numeric g.N.Number.form g.N.Number.map)
    g.V.Kind.kind (puts_entry g.N.Value.Ord.cmp) _ _ _ _ _ (c.in_err-entry.ensures.err other))

pub returns-clause-ok : goal.returns-clause-ok
returns-clause-ok g c =
    on_ok_weaker c.insert.result (λ put. entry_put g.row.PLACE
    (numeric g.N.Number.form g.N.Number.map) g.V.Kind.kind (puts_entry g.N.Value.Ord.cmp) _ _ _ _ _ _
    _ _ _ (ap (viewed (λ k. k) g.V.Kind.view) put ∙ viewed_insert (λ k. k) g.V.Kind.view
    g.N.Value.Ord.cmp g.N.Value.Ord.cmp (λ x y. refl) c.args.held.now.entries _ _)
    c.in_ok-entry.ensures.ok) c.insert.ensures.ok
