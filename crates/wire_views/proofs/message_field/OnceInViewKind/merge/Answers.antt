use Rattle.std.proofs.Common.{ap}
use Rattle.std.specs.Prelude.{Some}
use Rattle.std.proofs.lemmas.Result.{err_from_is_err_and, IfErr-weaker, on_ok_weaker}
use Rattle.wire_fields.proofs.Messages.{once_taken, no_once}
use Rattle.wire_views.proofs.message_field.OnceInViewKind.merge.Goals as goal

pub returns-in_err-merge-in-None-clause-err : goal.returns-in_err-merge-in-None-clause-err
returns-in_err-merge-in-None-clause-err g c =
    let p = err_from_is_err_and c.from_residual.result c.from_residual.ensures.1 in
    rw (p.1, p.2) (λ other. no_once g.E.ViewEncoding.encoding g.M.MessageView.takes
    g.M.MessageView.default _ _ _ _ _ _ (rw c.in-None.is c.default_view-message.ensures)
    ((c.in_err-merge-in-None).ensures.err other))

pub returns-in-Some-clause-ok : goal.returns-in-Some-clause-ok
returns-in-Some-clause-ok g c =
    on_ok_weaker c.merge.result (once_taken g.E.ViewEncoding.encoding g.M.MessageView.takes
    g.M.MessageView.default _ _ _ _ _ _ (rw c.in-Some.is (ap g.M.MessageView.view
    c.deref_mut.ensures.value))
    _ _ _ _ (λ i. Some (g.M.MessageView.view c.merge.new.message))) c.merge.ensures.ok

pub returns-in-Some-clause-err : goal.returns-in-Some-clause-err
returns-in-Some-clause-err g c =
    IfErr-weaker c.merge.result _ _ (λ e none other. no_once g.E.ViewEncoding.encoding
    g.M.MessageView.takes g.M.MessageView.default _ _ _ _ _ _
    (rw c.in-Some.is (ap g.M.MessageView.view c.deref_mut.ensures.value)) (none other))
    c.merge.ensures.err

pub returns-in_ok-merge-in-None-clause-ok : goal.returns-in_ok-merge-in-None-clause-ok
returns-in_ok-merge-in-None-clause-ok g c =
    on_ok_weaker c.hold.result (λ held. once_taken g.E.ViewEncoding.encoding g.M.MessageView.takes
    g.M.MessageView.default _ _ _ _ _ _ (rw c.in-None.is c.default_view-message.ensures) _ _ _ _
    held
    (c.in_ok-merge-in-None).ensures.ok) c.hold.ensures.ok
