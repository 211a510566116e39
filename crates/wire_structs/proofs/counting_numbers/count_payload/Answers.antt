use Rattle.std.proofs.Common.{◌++◌, [], ◌∷◌, length-append, arith, refl, rules, sym}
use Rattle.std.proofs.lemmas.Result.{err_from_is_err_and}
use Rattle.wire_fields.proofs.NumberTexts.{followed, in_form, no_numbers, shorter}
use Rattle.wire_fields.specs.Packed.{one_text}
use Rattle.wire_structs.proofs.counting_numbers.count_payload.Goals as goal

pub returns-in_err-_read-clause-err : goal.returns-in_err-_read-clause-err
returns-in_err-_read-clause-err g c =
    let p = err_from_is_err_and c.from_residual.result c.from_residual.ensures.1 in
    let form = g.S.StructNumber.form in
    rw p.1 (no_numbers form g.S.StructNumber.map _ _ (one_text c.one_varint.ensures form) _ _
    c.loop-rest.invariant.1 (search rules)
    (λ x new h. c.in_err-_read.ensures.err x new (in_form x (sym c.form-form.ensures) h)))

pub loop-rest-smaller : goal.loop-rest-smaller
loop-rest-smaller g c = shorter c.form-form.result _ _ c.in_ok-_read._read c.in_ok-_read.ensures.ok

pub loop-rest-preserved : goal.loop-rest-preserved
loop-rest-preserved g c =
    let vs = c.loop-rest.invariant.0 in
    let v = g.S.StructNumber.map.dec c.in_ok-_read._read in (
      vs ++ v ∷ [],
      followed g.S.StructNumber.form g.S.StructNumber.map _ _ _ _ _ _ c.in_ok-_read._read v
          c.loop-rest.invariant.1
          (in_form c.in_ok-_read._read c.form-form.ensures c.in_ok-_read.ensures.ok) refl refl,
      omega (
        arith,
        c.saturating_add-count.ensures,
        c.loop-rest.invariant.2,
        length-append vs (v ∷ []),
      ),
    )
