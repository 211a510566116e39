use Rattle.std.proofs.Common.{refl, rules, sym}
use Rattle.std.proofs.lemmas.Result.{err_from_is_err_and}
use Rattle.wire_fields.proofs.NumberTexts.{in_form}
use Rattle.wire_fields.specs.Packed.{one_text}
use Rattle.wire_structs.proofs.NumberWalkLemmas.{nowhere_later, numbers_end, payload_broken}
use Rattle.wire_structs.proofs.NumberWalkLemmas.{payload_gives}
use Rattle.wire_structs.proofs.numbers_walk.next_number.Goals as goal

pub returns-then-is_empty-clause-ended : goal.returns-then-is_empty-clause-ended
returns-then-is_empty-clause-ended g c =
    let l = g.L.NumberList in
    numbers_end l.takes l.list l.form l.values _ _ c.loop-walk.invariant
    c.records_in_order.ensures (search rules) (search rules)

pub returns-in_err-held-clause-err : goal.returns-in_err-held-clause-err
returns-in_err-held-clause-err g c =
    let l = g.L.NumberList in
    let p = err_from_is_err_and c.from_residual.result c.from_residual.ensures.1 in
    rw p.1 (nowhere_later l.takes l.list l.form l.values _ _ c.loop-walk.invariant
    c.in_err-held.ensures.err)

pub returns-in_err-read-clause-err : goal.returns-in_err-read-clause-err
returns-in_err-read-clause-err g c =
    let l = g.L.NumberList in
    let r = c.from_residual-in_err-read in
    let p = err_from_is_err_and r.result r.ensures.1 in
    rw p.1 (payload_broken l.takes l.list l.form l.values _ _ c.loop-walk.invariant
    (search rules)
    (λ x rest h. c.in_err-read.ensures.err x rest (in_form x (sym c.form.ensures) h)))

pub returns-clause-given : goal.returns-clause-given
returns-clause-given g c =
    let l = g.L.NumberList in
    payload_gives l.takes l.list l.form l.values _ _ c.loop-walk.invariant
    (one_text c.one_varint.ensures l.form) _ refl _ _ c.held_of.ensures
    (in_form _ c.form.ensures c.in_ok-read.ensures.ok)
