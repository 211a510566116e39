use Rattle.std.proofs.Common.{◌∙◌, sym}
use Rattle.std.proofs.lemmas.Bool.{eqb-true}
use Rattle.std.proofs.lemmas.Result.{err_from_is_err_and}
use Rattle.wire_fields.proofs.PackedRecords.{no_delimited, no_payload}
use Rattle.wire_views.proofs.FixedRecords.{in_place_taken, none_in}
use Rattle.wire_views.proofs.fixed.merged.Goals as goal

pub returns-in_err-numbers-in-LengthDelimited-clause-err :
    goal.returns-in_err-numbers-in-LengthDelimited-clause-err
returns-in_err-numbers-in-LengthDelimited-clause-err g c =
    let p = err_from_is_err_and c.from_residual.result c.from_residual.ensures.1 in
    rw (p.1, p.2) (λ other. no_delimited g.N.Number.form g.N.Number.map _ _ _ _ _
    c.no_delimited_beside_fault.ensures _ (sym c.wire_type.ensures ∙ c.in-LengthDelimited.is)
    c.in_err-numbers-in-LengthDelimited.ensures.fault)

pub returns-then-not-are_whole-clause-err : goal.returns-then-not-are_whole-clause-err
returns-then-not-are_whole-clause-err g c =
    let part = rw c.form-form.ensures at (c.are_whole.ensures.part c.if-not-are_whole.true
    (c.is_fixed.ensures c.if-is_fixed.true)) in
    λ other. no_payload g.N.Number.form g.N.Number.map _ _ _ _ _ c.one_delimited.ensures _ _
    (sym c.wire_type.ensures ∙ c.in-LengthDelimited.is)
    c.in_ok-numbers-in-LengthDelimited.ensures.ok (λ after k. part k.numbers k.spelled)

pub returns-in_err-merge-in_default-clause-err : goal.returns-in_err-merge-in_default-clause-err
returns-in_err-merge-in_default-clause-err g c =
    let r = c.from_residual-in_err-merge-in_default in
    let p = err_from_is_err_and r.result r.ensures.1 in
    rw (p.1, p.2) (rw c.in_ok-values-in_default.ensures at c.in_err-merge-in_default.ensures.err)

pub returns-else-not-are_whole-clause-ok : goal.returns-else-not-are_whole-clause-ok
returns-else-not-are_whole-clause-ok g c =
    let whole = rw c.form-form.ensures at (c.are_whole.ensures.whole c.if-not-are_whole.false) in
    in_place_taken g.N.Number.form g.N.Number.map _ _ _ _ _ _ _ c.records_in_order.ensures.limits
    (sym c.wire_type.ensures ∙ c.in-LengthDelimited.is)
    c.in_ok-numbers-in-LengthDelimited.ensures.ok whole
    (none_in g.N.Number.form g.N.Number.map c.args.payload.now
    (eqb-true _ _ (sym c.is_empty.ensures ∙ c.if-is_empty.true)))
