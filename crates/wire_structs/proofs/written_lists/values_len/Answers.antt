use Rattle.std.proofs.Common.{◌∙◌, arith}
use Rattle.wire_fields.proofs.Repeating.{counted_more, counted_all}
use Rattle.wire_structs.proofs.Writing.{scalar_len}
use Rattle.wire_structs.proofs.written_lists.values_len.Goals as goal

pub loop-value-preserved : goal.loop-value-preserved
loop-value-preserved g c = record {
  fits = omega arith;
  counted = counted_more g.S.StructScalar.scalar g.S.StructScalar.view c.args.number
      c.joined_records_add_up.ensures c.args.values.now c.loop-value.value-index c.loop-value.size
      c.record_len.result _ _ c.loop-value-test.true c.value-item.is
      (scalar_len g.S.StructScalar.scalar c.args.number _ _ c.payload.ensures _
      c.record_len.ensures) c.saturating_add-size.ensures
      ∙ c.loop-value.invariant.counted;
}

pub returns : goal.returns
returns g c =
    counted_all g.S.StructScalar.scalar g.S.StructScalar.view c.args.number
    c.joined_records_add_up.ensures c.args.values.now c.loop-value.value-index c.loop-value.size
    c.loop-value-test.false c.loop-value.invariant.fits c.loop-value.invariant.counted
