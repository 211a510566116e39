use Rattle.std.proofs.Common.{rules}
use Rattle.std.proofs.lemmas.Result.{err_from_is_err_and}
use Rattle.wire_fields.specs.ClosedMaps.{closed_value}
use Rattle.wire_fields.proofs.ClosedMaps.{entry_parsed, entry_unparsed}
use Rattle.wire_views.proofs.closed_map.parse_entry.Goals as goal

pub returns-in_err-entry-clause-err : goal.returns-in_err-entry-clause-err
returns-in_err-entry-clause-err g c =
    let r = c.from_residual-in_err-entry in
    let p = err_from_is_err_and r.result r.ensures.1 in
    rw (p.1, p.2) (λ other. entry_unparsed c.args.place g.K.MapKey.scalar
    (closed_value g.E.Enumeration.number g.E.Enumeration.of_number)
    c.limits_add_up.ensures c.levels_and_counts.ensures.levels c.whole_input.ensures _ _ _ _
    c.in_ok-register_element_memory.ensures.ok c.in_ok-descend.ensures.ok _
    (search rules) (c.in_err-entry.ensures.err other))

pub returns-clause-ok : goal.returns-clause-ok
returns-clause-ok g c =
    entry_parsed c.args.place g.K.MapKey.scalar
    (closed_value g.E.Enumeration.number g.E.Enumeration.of_number)
    c.limits_add_up.ensures c.levels_and_counts.ensures.levels c.whole_input.ensures _ _ _ _
    c.in_ok-register_element_memory.ensures.ok c.in_ok-descend.ensures.ok _
    (search rules) c.in_ok-register_element_memory.ensures.taken c.in_ok-descend.ensures.taken
    (search rules) _ _ _ c.in_ok-entry.ensures.ok (search rules)
