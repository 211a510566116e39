use Rattle.std.proofs.Common.{rules, sym}
use Rattle.std.proofs.lemmas.Result.{err_from_is_err_and}
use Rattle.wire_fields.specs.Packed.{one_text}
use Rattle.wire_fields.proofs.NumberTexts.{in_form, shorter, followed, no_numbers}
use Rattle.wire_fields.proofs.number_list.extend.Goals as goal

pub returns-in_err-x-clause-err : goal.returns-in_err-x-clause-err
returns-in_err-x-clause-err g c =
    let r = c.from_residual-in_err-x in
    let p = err_from_is_err_and r.result r.ensures.1 in
    let form = g.N.Number.form in
    rw (p.1, p.2) (λ other. no_numbers form g.N.Number.map _ _
    (one_text c.one_varint.ensures form) _ _ c.loop-rest.invariant (search rules)
    (λ x new h. c.in_err-x.ensures.err x new
    (in_form x (sym c.form-form.ensures) h)))

pub loop-rest-smaller : goal.loop-rest-smaller
loop-rest-smaller g c = shorter c.form-form.result _ _ c.in_ok-x.x c.in_ok-x.ensures.ok

pub loop-rest-preserved : goal.loop-rest-preserved
loop-rest-preserved g c =
    followed g.N.Number.form g.N.Number.map _ _ _ _ _ _ c.in_ok-x.x c.value_of.result
    c.loop-rest.invariant
    (in_form c.in_ok-x.x c.form-form.ensures c.in_ok-x.ensures.ok) c.value_of.ensures (search rules)
