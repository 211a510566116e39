use Rattle.std.proofs.Common.{refl, ap, ◌∙◌}
use Rattle.std.proofs.lemmas.Result.{err_from_is_err_and, on_ok_weaker}
use Rattle.wire_fields.specs.ClosedMaps.{closed_value}
use Rattle.wire_fields.specs.Maps.{viewed}
use Rattle.wire_fields.specs.Numbers.{numeric}
use Rattle.wire_fields.proofs.ClosedMaps.{no_found, found_put, viewed_found}
use Rattle.wire_fields.proofs.closed_map.MapNumericAlwaysEnumClosedMap.merge_closed.Goals as goal

pub returns-in_err-found-clause-err : goal.returns-in_err-found-clause-err
returns-in_err-found-clause-err g c =
    let p = err_from_is_err_and c.from_residual.result c.from_residual.ensures.1 in
    rw (p.1, p.2) (λ other. no_found g.row.PLACE g.N.Value.Ord.cmp (numeric g.N.Number.form g.N.Number.map)
    (closed_value g.E.Enumeration.number g.E.Enumeration.of_number) _ _ _ _ _
    (c.in_err-found.ensures.err other))

pub returns-clause-ok : goal.returns-clause-ok
returns-clause-ok g c =
    on_ok_weaker c.insert_found.result (λ put. found_put g.row.PLACE g.N.Value.Ord.cmp (numeric g.N.Number.form g.N.Number.map)
    (closed_value g.E.Enumeration.number g.E.Enumeration.of_number) _ _ _ _ _ _ _ _ _ _
    (ap (viewed (λ k. k) (λ v. v)) put
    ∙ viewed_found (λ k. k) (λ v. v) g.N.Value.Ord.cmp g.N.Value.Ord.cmp
    (λ x y. refl) (λ e. e.key) (λ e. e.value) c.args.held.now.entries c.in_ok-found.found)
    c.in_ok-found.ensures.ok) c.insert_found.ensures.ok
