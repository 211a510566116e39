use Rattle.std.proofs.Common.{◌∙◌, arith, sym}
use Rattle.std.proofs.lemmas.Result.{err_from_is_err_and}
use Rattle.wire_structs.proofs.WalkLemmas.{no_tag_stands, no_value_given, none_left, not_passed}
use Rattle.wire_structs.proofs.WalkLemmas.{one_passed, value_given}
use Rattle.wire_structs.proofs.walking.ValueList.next.Goals as goal

pub returns-in_err-tag-clause-err : goal.returns-in_err-tag-clause-err
returns-in_err-tag-clause-err g c =
    let p = err_from_is_err_and c.from_residual.result c.from_residual.ensures.1 in
    rw p.1 (no_tag_stands c.records_in_order.ensures g.Self.ValueList.takes g.Self.ValueList.list
    g.Self.ValueList.Means g.Self.ValueList.number g.Self.ValueList.scalar
    g.met.Self.ValueList.lawful _ _
    c.loop-buf.invariant _ (omega (arith, c.remaining.ensures, c.loop-buf-test.true))
    c.in_err-tag.ensures.fault)

pub returns-in_err-set-clause-err : goal.returns-in_err-set-clause-err
returns-in_err-set-clause-err g c =
    let r = c.from_residual-in_err-set in
    let p = err_from_is_err_and r.result r.ensures.1 in
    rw p.1 (no_value_given c.records_in_order.ensures g.Self.ValueList.takes g.Self.ValueList.list
    g.Self.ValueList.Means g.Self.ValueList.number g.Self.ValueList.scalar
    g.met.Self.ValueList.lawful _ _
    c.loop-buf.invariant _ _ _ (omega (arith, c.remaining.ensures, c.loop-buf-test.true))
    c.in_ok-tag.ensures.ok c.levels_and_counts.ensures c.whole_input.ensures
    (sym c.field_number.ensures.number ∙ c.if-field_number-number.true ∙ c.number.ensures)
    c.in_err-set.ensures.err)

pub returns-then-field_number-number-clause-ok : goal.returns-then-field_number-number-clause-ok
returns-then-field_number-number-clause-ok g c =
    value_given c.records_in_order.ensures g.Self.ValueList.takes g.Self.ValueList.list
    g.Self.ValueList.Means g.Self.ValueList.number g.Self.ValueList.scalar
    g.met.Self.ValueList.lawful _ _
    c.loop-buf.invariant _ _ _ (omega (arith, c.remaining.ensures, c.loop-buf-test.true))
    c.in_ok-tag.ensures.ok c.levels_and_counts.ensures c.whole_input.ensures
    (sym c.field_number.ensures.number ∙ c.if-field_number-number.true ∙ c.number.ensures)
    _ _ c.in_ok-set.ensures.ok

pub loop-buf-preserved : goal.loop-buf-preserved
loop-buf-preserved g c =
    one_passed c.records_in_order.ensures g.Self.ValueList.takes g.Self.ValueList.list
    g.Self.ValueList.Means g.Self.ValueList.number g.Self.ValueList.scalar
    g.met.Self.ValueList.lawful _ _
    c.loop-buf.invariant _ _ _ (omega (arith, c.remaining.ensures, c.loop-buf-test.true))
    c.in_ok-tag.ensures.ok
    (λ is. c.if-field_number-number.false
    (c.field_number.ensures.number ∙ is ∙ sym c.number.ensures))
    _ c.in_ok-skip_field_depth.ensures.ok

pub returns-in_err-skip_field_depth-clause-err : goal.returns-in_err-skip_field_depth-clause-err
returns-in_err-skip_field_depth-clause-err g c =
    let r = c.from_residual-in_err-skip_field_depth in
    let p = err_from_is_err_and r.result r.ensures.1 in
    rw p.1 (not_passed c.records_in_order.ensures g.Self.ValueList.takes g.Self.ValueList.list
    g.Self.ValueList.Means g.Self.ValueList.number g.Self.ValueList.scalar
    g.met.Self.ValueList.lawful _ _
    c.loop-buf.invariant _ _ _ (omega (arith, c.remaining.ensures, c.loop-buf-test.true))
    c.in_ok-tag.ensures.ok c.no_payload_beside_fault.ensures _
    c.in_err-skip_field_depth.ensures.fault)

pub returns-clause-ok : goal.returns-clause-ok
returns-clause-ok g c =
    none_left c.records_in_order.ensures g.Self.ValueList.takes g.Self.ValueList.list
    g.Self.ValueList.Means g.Self.ValueList.number g.Self.ValueList.scalar
    g.met.Self.ValueList.lawful _ _
    c.loop-buf.invariant (omega (arith, c.remaining.ensures, c.loop-buf-test.false))
