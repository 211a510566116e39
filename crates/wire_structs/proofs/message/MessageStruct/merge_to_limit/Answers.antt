use Rattle.std.proofs.Common.{refl, arith}
use Rattle.std.proofs.lemmas.Result.{err_from_is_err_and}
use Rattle.wire_codec.specs.Ending.{by_limit}
use Rattle.wire_codec.proofs.Lists.{at_start, at_end, no_tag, no_record, one_more, not_ended}
use Rattle.wire_structs.proofs.message.MessageStruct.merge_to_limit.Goals as goal

pub loop-buf-init : goal.loop-buf-init
loop-buf-init g c =
    at_start c.records_in_order.ensures g.Self.MessageStruct.takes (by_limit c.args.limit) _ _ _

pub returns-in_err-tag-clause-err : goal.returns-in_err-tag-clause-err
returns-in_err-tag-clause-err g c =
    let p = err_from_is_err_and c.from_residual.result c.from_residual.ensures.1 in
    rw p.1 (no_tag c.records_in_order.ensures g.Self.MessageStruct.takes _ _ _ _ _ _ _ _
    c.loop-buf.invariant
    (λ new ended. omega (arith, c.remaining.ensures, c.loop-buf-test.true, ended.0))
    c.in_err-tag.ensures.fault)

pub loop-buf-preserved : goal.loop-buf-preserved
loop-buf-preserved g c =
    let taken = c.in_ok-merge_field.ensures.ok in
    one_more c.records_in_order.ensures g.Self.MessageStruct.takes
    (g.met.Self.MessageStruct.single c.records_in_order.ensures.reading) (by_limit c.args.limit)
    _ _ _ _ _ _ _ _ _ _ _ _ _ c.loop-buf.invariant
    (omega (arith, c.remaining.ensures, c.loop-buf-test.true)) c.in_ok-tag.ensures.ok tt
    taken.taken taken.left

pub returns-in_err-merge_field-clause-err : goal.returns-in_err-merge_field-clause-err
returns-in_err-merge_field-clause-err g c =
    let p = err_from_is_err_and c.from_residual-in_err-merge_field.result
    c.from_residual-in_err-merge_field.ensures.1 in
    rw p.1 (no_record c.records_in_order.ensures g.Self.MessageStruct.takes
    (by_limit c.args.limit) _ _ _ _ _ _ _ _ _ c.loop-buf.invariant c.in_ok-tag.ensures.ok
    (not_ended c.records_in_order.ensures (by_limit c.args.limit) _ _ _ _
    (omega (arith, c.remaining.ensures, c.loop-buf-test.true)) c.in_ok-tag.ensures.ok tt)
    c.in_err-merge_field.ensures.err)

pub returns-clause-ok : goal.returns-clause-ok
returns-clause-ok g c =
    at_end c.records_in_order.ensures g.Self.MessageStruct.takes (by_limit c.args.limit) _ _ _ _ _ _
    _ c.loop-buf.invariant (omega (arith, c.remaining.ensures, c.loop-buf-test.false), refl)
