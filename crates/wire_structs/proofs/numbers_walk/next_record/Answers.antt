use Rattle.std.proofs.Common.{◌∙◌, arith, refl, sym}
use Rattle.std.proofs.lemmas.Result.{err_from_is_err_and}
use Rattle.wire_base.proofs.FieldLaws.{rest_below}
use Rattle.wire_fields.proofs.PackedRecords.{none_in, read_in}
use Rattle.wire_structs.proofs.NumberWalkLemmas.{given_next, no_number_next, no_payload_next}
use Rattle.wire_structs.proofs.NumberWalkLemmas.{no_tag_next, not_passed_next, number_behind}
use Rattle.wire_structs.proofs.NumberWalkLemmas.{opened_next, passed_next}
use Rattle.wire_structs.proofs.numbers_walk.next_record.Goals as goal

pub returns-in_err-tag-clause-err : goal.returns-in_err-tag-clause-err
returns-in_err-tag-clause-err g c =
    let l = g.L.NumberList in
    let p = err_from_is_err_and c.from_residual.result c.from_residual.ensures.1 in
    rw p.1 (no_tag_next c.records_in_order.ensures l.takes l.list l.number l.form l.values
    g.met.L.NumberList.lawful _ c.requires.more _ c.in_err-tag.ensures.fault)

pub returns-in_err-skip_field_depth-clause-err : goal.returns-in_err-skip_field_depth-clause-err
returns-in_err-skip_field_depth-clause-err g c =
    let l = g.L.NumberList in
    let r = c.from_residual-in_err-skip_field_depth in
    let p = err_from_is_err_and r.result r.ensures.1 in
    rw p.1 (not_passed_next c.records_in_order.ensures l.takes l.list l.number l.form l.values
    g.met.L.NumberList.lawful _ c.requires.more _ _ _ c.in_ok-tag.ensures.ok
    c.no_payload_beside_fault.ensures _ c.in_err-skip_field_depth.ensures.fault)

pub returns-then-field_number-number-clause-passed :
    goal.returns-then-field_number-number-clause-passed
returns-then-field_number-number-clause-passed g c =
    let l = g.L.NumberList in
    passed_next c.records_in_order.ensures l.takes l.list l.number l.form l.values
    g.met.L.NumberList.lawful _ c.requires.more _ _ _ c.in_ok-tag.ensures.ok
    (λ is. c.if-field_number-number.true
    (c.field_number.ensures.number ∙ is ∙ sym c.number.ensures))
    _ refl c.in_ok-skip_field_depth.ensures.ok

pub returns-in_err-walk-in-LengthDelimited-clause-err :
    goal.returns-in_err-walk-in-LengthDelimited-clause-err
returns-in_err-walk-in-LengthDelimited-clause-err g c =
    let l = g.L.NumberList in
    let r = c.from_residual-in_err-walk-in-LengthDelimited in
    let p = err_from_is_err_and r.result r.ensures.1 in
    rw p.1 (no_payload_next c.records_in_order.ensures l.takes l.list l.number l.form l.values
    g.met.L.NumberList.lawful _ c.requires.more _ _ _ c.in_ok-tag.ensures.ok
    (sym c.field_number.ensures.number ∙ c.if-field_number-number.false ∙ c.number.ensures)
    c.requires.none_open c.no_delimited_beside_fault.ensures _
    (sym c.wire_type.ensures ∙ c.in-LengthDelimited.is)
    (c.in_err-walk-in-LengthDelimited).ensures.fault)

pub returns-in_ok-walk-in-LengthDelimited-clause-passed :
    goal.returns-in_ok-walk-in-LengthDelimited-clause-passed
returns-in_ok-walk-in-LengthDelimited-clause-passed g c =
    let l = g.L.NumberList in
    opened_next c.records_in_order.ensures l.takes l.list l.number l.form l.values
    g.met.L.NumberList.lawful _ c.requires.more _ _ _ c.in_ok-tag.ensures.ok
    (sym c.field_number.ensures.number ∙ c.if-field_number-number.false ∙ c.number.ensures)
    c.requires.none_open (sym c.wire_type.ensures ∙ c.in-LengthDelimited.is) _
    (c.in_ok-walk-in-LengthDelimited).ensures.ok

pub returns-in_err-read-in_default-clause-err : goal.returns-in_err-read-in_default-clause-err
returns-in_err-read-in_default-clause-err g c =
    let l = g.L.NumberList in
    let r = c.from_residual-in_err-read-in_default in
    let p = err_from_is_err_and r.result r.ensures.1 in
    rw p.1 (no_number_next c.records_in_order.ensures l.takes l.list l.number l.form l.values
    g.met.L.NumberList.lawful _ c.requires.more _ _ _ c.in_ok-tag.ensures.ok
    (sym c.field_number.ensures.number ∙ c.if-field_number-number.false ∙ c.number.ensures)
    c.requires.none_open (λ is. c.in_default.not-LengthDelimited (c.wire_type.ensures ∙ is))
    (none_in c.form.ensures (c.in_err-read-in_default).ensures.err))

pub returns-in_ok-read-in_default-clause-given : goal.returns-in_ok-read-in_default-clause-given
returns-in_ok-read-in_default-clause-given g c =
    let l = g.L.NumberList in
    given_next c.records_in_order.ensures l.takes l.list l.number l.form l.values
    g.met.L.NumberList.lawful _ c.requires.more _ _ _ c.in_ok-tag.ensures.ok
    (sym c.field_number.ensures.number ∙ c.if-field_number-number.false ∙ c.number.ensures)
    c.requires.none_open _ refl _ _ c.held_of.ensures
    (read_in c.form.ensures (c.in_ok-read-in_default).ensures.ok)

pub returns-in_ok-read-in_default-clause-shorter :
    goal.returns-in_ok-read-in_default-clause-shorter
returns-in_ok-read-in_default-clause-shorter g c =
    omega (
      arith,
      rest_below _ _ _ _ c.in_ok-tag.ensures.ok,
      number_behind _ _ _ _ _ _ (c.in_ok-read-in_default).ensures.ok,
    )
