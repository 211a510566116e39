use Rattle.std.proofs.Common.{ap, ◌∙◌, length, arith, length-append}
use Rattle.std.proofs.lemmas.Result.{err_from_is_err_and}
use Rattle.wire_base.specs.Fault.{past, no_tag, bad_payload}
use Rattle.wire_base.specs.Field.{none, push}
use Rattle.wire_scalar.proofs.Borrowing.{one_more, borrows, at_none}
use Rattle.wire_scalar.proofs.group.split_group.Goals as goal

pub loop-tag-init : goal.loop-tag-init
loop-tag-init c =
    record { so_far = (none, c.records_one_by_one.ensures.none _ _); len = omega arith }

pub returns-in_err-tag-clause-fault : goal.returns-in_err-tag-clause-fault
returns-in_err-tag-clause-fault c =
    let p = err_from_is_err_and c.from_residual.result c.from_residual.ensures.1 in
    let so_far = c.loop-tag.invariant.so_far in
    rw (p.1, p.2) (past so_far.0 _ so_far.1 tt (no_tag c.in_err-tag.ensures.fault))

pub returns-in_err-skip_field_depth-clause-fault : goal.returns-in_err-skip_field_depth-clause-fault
returns-in_err-skip_field_depth-clause-fault c =
    let r = c.from_residual-in_err-skip_field_depth in
    let p = err_from_is_err_and r.result r.ensures.1 in
    let so_far = c.loop-tag.invariant.so_far in
    let tag = c.in_ok-tag.ensures in
    rw (p.1, p.2) (past so_far.0 _ so_far.1 tt
    (bad_payload _ _ _ (rw c.in-Some.is at tag.record)
    (rw c.in-Some.is at tag.inside) c.in_err-skip_field_depth.ensures.fault))

pub loop-tag-preserved : goal.loop-tag-preserved
loop-tag-preserved c =
    let so_far = c.loop-tag.invariant.so_far in
    let p = c.in_ok-skip_field_depth.ensures.ok in
    let next = one_more c.charges_add_up.ensures c.records_one_by_one.ensures _ so_far.0 _ _ p.0 _ _
    _ _ so_far.1 (rw c.in-Some.is at c.in_ok-tag.ensures.record) p.1 in
    record {
      so_far = (push so_far.0 _ p.0, next);
      len = omega (
        arith,
        ap length next.read.parts
            ∙ length-append next.read.text c.skip_field_depth.new.buf.now,
      );
    }

pub returns-clause-ok : goal.returns-clause-ok
returns-clause-ok c =
    let so_far = c.loop-tag.invariant.so_far in
    borrows _ _ _ so_far.0 _ _ _ so_far.1 c.loop-tag.invariant.len
    (at_none _ _ c.in_default.not-Some c.in_ok-tag.ensures.end)
