use Rattle.std.proofs.Common.{sym, ◌∙◌}
use Rattle.std.proofs.lemmas.Bool.{eqb-false}
use Rattle.std.proofs.lemmas.Result.{err_from_is_err_and}
use Rattle.wire_base.specs.Ending.{by_input}
use Rattle.wire_base.specs.Fault.{bad_tag}
use Rattle.wire_base.proofs.Decoded.{refused_tag, refused_payload, refused_push}
use Rattle.wire_base.proofs.ListLaws.{some_left}
use Rattle.wire_base.proofs.Results.{at_ok}
use Rattle.wire_base.proofs.Takes.{keeps_none, keeps_field}
use Rattle.wire_base.proofs.unknown_fields.UnknownFields.append_from_slice.Goals as goal

pub loop-buf-init : goal.loop-buf-init
loop-buf-init c = keeps_none _ _ _

pub returns-in_err-tag-clause-fault : goal.returns-in_err-tag-clause-fault
returns-in_err-tag-clause-fault c =
    let p = err_from_is_err_and c.from_residual.result c.from_residual.ensures.1 in
    rw (p.1, p.2)
    (refused_tag _ by_input _ _ _ c.loop-buf.invariant.taken _
    (some_left _ (eqb-false _ _ (sym c.is_empty.ensures
    ∙ c.loop-buf-test.true))) (bad_tag c.in_err-tag.ensures.fault))

pub returns-in_err-field-clause-fault : goal.returns-in_err-field-clause-fault
returns-in_err-field-clause-fault c =
    let r = c.from_residual-in_err-field in
    let p = err_from_is_err_and r.result r.ensures.1 in
    let loop = c.loop-buf.invariant in
    rw (p.1, p.2)
    (refused_payload _ by_input _ _ _ loop.taken _ _ _ _ _
    (some_left _ (eqb-false _ _ (sym c.is_empty.ensures
    ∙ c.loop-buf-test.true))) c.in_ok-tag.ensures.ok tt loop.left c.in_err-field.ensures.fault)

pub returns-then-is_err-clause-fault : goal.returns-then-is_err-clause-fault
returns-then-is_err-clause-fault c =
    refused_push _ by_input _ _ _ c.loop-buf.invariant.taken _ _ _ _ _ _
    c.in_ok-tag.ensures.ok c.loop-buf.invariant.left c.in_ok-field.ensures.ok

pub loop-buf-preserved : goal.loop-buf-preserved
loop-buf-preserved c =
    let read = c.in_ok-field.ensures in
    let pushed = at_ok c.push.result _ (sym c.is_err.ensures.value
    ∙ c.if-is_err.false) c.push.ensures.ok in
    rw (pushed, read.number)
    (keeps_field _ _ _ _ _ _ _ _ _ _ _ _ c.loop-buf.invariant c.in_ok-tag.ensures.ok read.ok
    read.charged)
