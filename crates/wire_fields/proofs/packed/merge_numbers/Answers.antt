use Rattle.std.proofs.Common.{sym, ◌∙◌, rules}
use Rattle.std.proofs.lemmas.Result.{err_from_is_err_and, IfErr-weaker, on_ok_weaker}
use Rattle.wire_fields.proofs.PackedRecords.{payload_taken, number_taken, no_delimited, no_payload}
use Rattle.wire_fields.proofs.PackedRecords.{no_number, read_in, none_in, on_ok_two}
use Rattle.wire_fields.proofs.packed.merge_numbers.Goals as goal

pub returns-in_err-len-in-LengthDelimited-clause-err :
    goal.returns-in_err-len-in-LengthDelimited-clause-err
returns-in_err-len-in-LengthDelimited-clause-err g c =
    let p = err_from_is_err_and c.from_residual.result c.from_residual.ensures.1 in
    rw (p.1, p.2) (λ other. no_delimited g.N.Number.form g.N.Number.map _ _ _ _ _
    c.no_delimited_beside_fault.ensures _ (sym c.wire_type.ensures ∙ c.in-LengthDelimited.is)
    (c.in_err-len-in-LengthDelimited).ensures.fault)

pub returns-in_ok-len-in-LengthDelimited-clause-ok :
    goal.returns-in_ok-len-in-LengthDelimited-clause-ok
returns-in_ok-len-in-LengthDelimited-clause-ok g c =
    on_ok_two c.extend_from.result (payload_taken g.N.Number.form g.N.Number.map _ _ _ _ _
    c.records_in_order.ensures.limits _ _ _ _ (sym c.wire_type.ensures ∙ c.in-LengthDelimited.is)
    (c.in_ok-len-in-LengthDelimited).ensures.payload) c.extend_from.ensures.ok
    c.extend_from.ensures.rest

pub returns-in_ok-len-in-LengthDelimited-clause-err :
    goal.returns-in_ok-len-in-LengthDelimited-clause-err
returns-in_ok-len-in-LengthDelimited-clause-err g c =
    IfErr-weaker c.extend_from.result _ _ (λ e absent other. no_payload g.N.Number.form
    g.N.Number.map _ _ _ _ _ c.one_delimited.ensures _ _
    (sym c.wire_type.ensures ∙ c.in-LengthDelimited.is)
    (c.in_ok-len-in-LengthDelimited).ensures.payload (absent other)) c.extend_from.ensures.err

pub returns-in_err-x-in_default-clause-err : goal.returns-in_err-x-in_default-clause-err
returns-in_err-x-in_default-clause-err g c =
    let r = c.from_residual-in_err-x-in_default in
    let p = err_from_is_err_and r.result r.ensures.1 in
    rw (p.1, p.2) (λ other. no_number g.N.Number.form g.N.Number.map _ _ _ _ _ (search rules)
    (none_in c.form.ensures (c.in_err-x-in_default).ensures.err))

pub returns-in_ok-x-in_default-clause-ok : goal.returns-in_ok-x-in_default-clause-ok
returns-in_ok-x-in_default-clause-ok g c =
    on_ok_weaker c.push.result (number_taken g.N.Number.form g.N.Number.map _ _ _ _ _
    c.records_in_order.ensures.limits _ _ _ _
    (read_in c.form.ensures (c.in_ok-x-in_default).ensures.ok) c.value_of.ensures) c.push.ensures.ok
