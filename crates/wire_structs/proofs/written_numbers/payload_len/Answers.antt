use Rattle.std.proofs.Common.{◌∙◌, ap, arith, length}
use Rattle.wire_fields.specs.Packed.{number_text}
use Rattle.wire_structs.proofs.PackedWriting.{numbers_measured, numbers_more}
use Rattle.wire_structs.proofs.written_numbers.payload_len.Goals as goal

pub loop-value-preserved : goal.loop-value-preserved
loop-value-preserved g c =
    let s = g.S.StructNumber in
    record {
      fits = omega (arith, c.saturating_add-len.ensures);
      counted = numbers_more s.form s.map s.view c.args.values.now c.loop-value.value-index
          c.loop-value.len c.number_len.result _ _ c.loop-value-test.true c.value-item.is
          (c.number_len.ensures
          ∙ ap (λ f. length (number_text f c.number_of.result)) c.form-form.ensures
          ∙ ap (λ x. length (number_text s.form x)) c.number_of.ensures.number)
          c.saturating_add-len.ensures
          ∙ c.loop-value.invariant.counted;
    }

pub returns : goal.returns
returns g c =
    let s = g.S.StructNumber in
    numbers_measured s.form s.map s.view c.args.values.now c.loop-value.value-index
    c.loop-value.len c.loop-value-test.false c.loop-value.invariant.fits
    c.loop-value.invariant.counted
