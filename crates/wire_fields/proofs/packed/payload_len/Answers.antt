use Rattle.std.proofs.Common.{◌∙◌, ap, length, sym, arith}
use Rattle.wire_fields.specs.Numbers.{in_64_bits}
use Rattle.wire_fields.specs.Packed.{number_text}
use Rattle.wire_fields.proofs.NumberTexts.{all_bytes, counted_more, counted_all}
use Rattle.wire_fields.proofs.packed.payload_len.Goals as goal

pub loop-value-init : goal.loop-value-init
loop-value-init g c = record {
  fits = omega arith;
  counted = ap in_64_bits (sym (all_bytes g.N.Number.form g.N.Number.map c.args.values.now));
}

pub loop-value-preserved : goal.loop-value-preserved
loop-value-preserved g c = record {
  fits = omega (arith, c.saturating_add-len.ensures);
  counted = counted_more g.N.Number.form g.N.Number.map c.args.values.now
      c.loop-value.value-index c.loop-value.len _ _ _ c.loop-value-test.true c.value-item.is
      (c.len_beyond_first.ensures
      ∙ ap (λ f. length (number_text f c.number_of.result)) c.form-form.ensures
      ∙ ap (λ x. length (number_text g.N.Number.form x)) c.number_of.ensures.number)
      c.saturating_add-len.ensures
      ∙ c.loop-value.invariant.counted;
}

pub returns : goal.returns
returns g c = counted_all g.N.Number.form g.N.Number.map c.args.values.now
    c.loop-value.value-index c.loop-value.len c.loop-value-test.false
    c.loop-value.invariant.fits c.loop-value.invariant.counted
