use Rattle.std.proofs.Common.{ap, ◌∙◌, [], ◌∷◌, ◌++◌, map}
use Rattle.std.proofs.lemmas.List.{map-append}
use Rattle.std.proofs.lemmas.Result.{err_from_is_err_and, on_ok_weaker}
use Rattle.wire_fields.proofs.Messages.{each_taken, no_room, no_more}
use Rattle.wire_views.proofs.message_field.EachInViewKind.merge.Goals as goal

pub returns-in_err-register_element_memory-clause-err :
    goal.returns-in_err-register_element_memory-clause-err
returns-in_err-register_element_memory-clause-err g c =
    let p = err_from_is_err_and c.from_residual.result c.from_residual.ensures.1 in
    rw (p.1, p.2) (λ other. no_room g.row.PLACE g.E.ViewEncoding.encoding g.M.MessageView.takes
    g.M.MessageView.default (λ m after. m ++ after ∷ []) c.limits_add_up.ensures
    _ _ _ _ g.M.MessageView.default _ (λ i. g.M.MessageView.default)
    c.in_err-register_element_memory.ensures.none_left)

pub returns-in_err-merge-clause-err : goal.returns-in_err-merge-clause-err
returns-in_err-merge-clause-err g c =
    let r = c.from_residual-in_err-merge in
    let p = err_from_is_err_and r.result r.ensures.1 in
    rw (p.1, p.2) (λ other. no_more g.row.PLACE g.E.ViewEncoding.encoding g.M.MessageView.takes
    g.M.MessageView.default (λ m after. m ++ after ∷ []) c.limits_add_up.ensures
    _ _ _ _ _ _ c.default_view-message.ensures _
    c.in_ok-register_element_memory.ensures.ok (c.in_err-merge.ensures.err other))

pub returns-clause-ok : goal.returns-clause-ok
returns-clause-ok g c =
    on_ok_weaker c.push.result (λ pushed. each_taken g.row.PLACE g.E.ViewEncoding.encoding
    g.M.MessageView.takes g.M.MessageView.default (λ m after. m ++ after ∷ [])
    c.limits_add_up.ensures
    _ _ _ _ _ _ c.default_view-message.ensures _ _ _ _ _ c.in_ok-register_element_memory.ensures.ok
    c.in_ok-register_element_memory.ensures.taken
    (ap (map g.M.MessageView.view) pushed
    ∙ map-append g.M.MessageView.view c.args.held.now.items (_ ∷ []))
    c.in_ok-merge.ensures.ok) c.push.ensures.ok
