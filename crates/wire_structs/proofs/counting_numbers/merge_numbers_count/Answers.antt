use Rattle.std.proofs.Common.{[], ◌∷◌, ◌∙◌, refl, sym}
use Rattle.std.proofs.lemmas.Result.{err_from_is_err_and}
use Rattle.wire_fields.proofs.PackedRecords.{no_delimited, no_number, no_payload, none_in}
use Rattle.wire_fields.proofs.PackedRecords.{number_taken, read_in}
use Rattle.wire_structs.proofs.CountedNumbers.{numbers_counted, numbers_uncounted, payload_counted}
use Rattle.wire_structs.proofs.counting_numbers.merge_numbers_count.Goals as goal

pub returns-in_err-payload-in-LengthDelimited-clause-err :
    goal.returns-in_err-payload-in-LengthDelimited-clause-err
returns-in_err-payload-in-LengthDelimited-clause-err g c = λ l.
    let form = g.S.StructNumber.form in
    let values = g.S.StructNumber.map in
    let p = err_from_is_err_and c.from_residual.result c.from_residual.ensures.1 in
    rw p.1 (numbers_uncounted form values l _ _ _ _ (no_delimited form values l _ _ [] _
    c.no_delimited_beside_fault.ensures _ (sym c.wire_type.ensures ∙ c.in-LengthDelimited.is)
    (c.in_err-payload-in-LengthDelimited).ensures.fault))

pub returns-in_err-count-in-LengthDelimited-clause-err :
    goal.returns-in_err-count-in-LengthDelimited-clause-err
returns-in_err-count-in-LengthDelimited-clause-err g c = λ l.
    let form = g.S.StructNumber.form in
    let values = g.S.StructNumber.map in
    let r = c.from_residual-in_err-count-in-LengthDelimited in
    let p = err_from_is_err_and r.result r.ensures.1 in
    rw p.1 (numbers_uncounted form values l _ _ _ _ (no_payload form values l _ _ [] _
    c.one_delimited.ensures _ _ (sym c.wire_type.ensures ∙ c.in-LengthDelimited.is)
    (c.in_ok-payload-in-LengthDelimited).ensures.ok
    (c.in_err-count-in-LengthDelimited).ensures.err))

pub returns-in_ok-count-in-LengthDelimited-clause-ok :
    goal.returns-in_ok-count-in-LengthDelimited-clause-ok
returns-in_ok-count-in-LengthDelimited-clause-ok g c = λ l.
    let (vs, appends, is) = (c.in_ok-count-in-LengthDelimited).ensures.ok in
    payload_counted g.S.StructNumber.form g.S.StructNumber.map l _ _ _ _
    c.limits_add_up.ensures (sym c.wire_type.ensures ∙ c.in-LengthDelimited.is) _ _
    (c.in_ok-payload-in-LengthDelimited).ensures.ok vs appends _ is

pub returns-in_err-_read-in_default-clause-err : goal.returns-in_err-_read-in_default-clause-err
returns-in_err-_read-in_default-clause-err g c = λ l.
    let form = g.S.StructNumber.form in
    let values = g.S.StructNumber.map in
    let r = c.from_residual-in_err-_read-in_default in
    let p = err_from_is_err_and r.result r.ensures.1 in
    rw p.1 (numbers_uncounted form values l _ _ _ _ (no_number form values l _ _ [] _
    (λ is. c.in_default.not-LengthDelimited (c.wire_type.ensures ∙ is))
    (none_in c.form.ensures (c.in_err-_read-in_default).ensures.err)))

pub returns-in_ok-_read-in_default-clause-ok : goal.returns-in_ok-_read-in_default-clause-ok
returns-in_ok-_read-in_default-clause-ok g c = λ l.
    let form = g.S.StructNumber.form in
    let values = g.S.StructNumber.map in
    let v = values.dec (c.in_ok-_read-in_default)._read in
    numbers_counted form values l _ _ _ _ _ (v ∷ []) _ (number_taken form values l _ _ [] _
    c.limits_add_up.ensures _ v (v ∷ []) _
    (read_in c.form.ensures (c.in_ok-_read-in_default).ensures.ok) refl refl)
    c.saturating_add.ensures
