use Rattle.std.proofs.Common.{ap, ◌∙◌, [], ◌∷◌, map}
use Rattle.std.proofs.lemmas.List.{map-append}
use Rattle.std.proofs.lemmas.Result.{err_from_is_err_and, on_ok_weaker}
use Rattle.wire_fields.proofs.Repeating.{value_added, no_place, no_value}
use Rattle.wire_views.proofs.repeated.RepeatedInViewKind.merge.Goals as goal

pub returns-in_err-register_element_memory-clause-err :
    goal.returns-in_err-register_element_memory-clause-err
returns-in_err-register_element_memory-clause-err g c =
    let p = err_from_is_err_and c.from_residual.result c.from_residual.ensures.1 in
    rw (p.1, p.2) (λ other. no_place g.row.PLACE g.S.ViewScalar.scalar _ _ _ _ _
    c.in_err-register_element_memory.ensures.none_left)

pub returns-in_err-set-clause-err : goal.returns-in_err-set-clause-err
returns-in_err-set-clause-err g c =
    let r = c.from_residual-in_err-set in
    let p = err_from_is_err_and r.result r.ensures.1 in
    rw (p.1, p.2) (λ other. no_value g.row.PLACE g.S.ViewScalar.scalar _ _ _ _ _
    (c.in_err-set.ensures.err other))

pub returns-clause-ok : goal.returns-clause-ok
returns-clause-ok g c =
    on_ok_weaker c.push.result (λ pushed. value_added g.row.PLACE g.S.ViewScalar.scalar _ _ _ _ _ _
    _ _ _ c.in_ok-register_element_memory.ensures.ok
    c.in_ok-register_element_memory.ensures.taken
    (ap (map g.S.ViewScalar.view) pushed
    ∙ map-append g.S.ViewScalar.view c.args.held.now.items (_ ∷ []))
    c.in_ok-set.ensures.ok) c.push.ensures.ok
