use Rattle.std.proofs.Common.{sym, ◌∙◌, arith, refl}
use Rattle.std.proofs.lemmas.Result.{err_from_is_err_and}
use Rattle.wire_base.proofs.LimitsLaws.{uncounted_slot}
use Rattle.wire_base.proofs.Payloads.{takes_group, takes_until}
use Rattle.wire_base.proofs.Results.{at_none}
use Rattle.wire_base.proofs.Takes.{takes_none, takes_field}
use Rattle.wire_base.specs.Fault.{no_level, in_group, no_tag, bad_payload, past}
use Rattle.wire_base.specs.Field.{none, push, group}
use Rattle.wire_base.specs.Limits.{uncounted}
use Rattle.wire_structs.proofs.UnknownSizes.{counted_push, counted_body, counted_group}
use Rattle.wire_structs.proofs.unknown_record.+measure.Goals as goal

-- ---- one record

pub unknown_record_len-returns-then-depth-eq0-clause-fault :
    goal.unknown_record_len-returns-then-depth-eq0-clause-fault
unknown_record_len-returns-then-depth-eq0-clause-fault t c =
    rw (sym c.wire_type.ensures ∙ c.in-StartGroup.is)
    (no_level (uncounted_slot _) c.if-depth-eq0.true)

pub unknown_record_len-returns-in_err-body-in-StartGroup-clause-fault :
    goal.unknown_record_len-returns-in_err-body-in-StartGroup-clause-fault
unknown_record_len-returns-in_err-body-in-StartGroup-clause-fault t c =
    let r = c.from_residual in
    let p = err_from_is_err_and r.result r.ensures.1 in
    let fault = rw c.field_number.ensures.number at
    (c.in_err-body-in-StartGroup).ensures.fault in
    rw (p.1, p.2, sym c.wire_type.ensures ∙ c.in-StartGroup.is)
    (in_group (uncounted_slot c.args.depth) (omega arith) fault)

pub unknown_record_len-returns-in_ok-body-in-StartGroup-clause-ok :
    goal.unknown_record_len-returns-in_ok-body-in-StartGroup-clause-ok
unknown_record_len-returns-in_ok-body-in-StartGroup-clause-ok t c =
    let body = rw c.field_number.ensures.number at (c.in_ok-body-in-StartGroup).ensures.ok in (
      group body.0,
      rw (sym c.wire_type.ensures ∙ c.in-StartGroup.is)
          (takes_group (uncounted c.args.depth) _ (uncounted_slot c.args.depth) body.0 _ _
          (omega arith) body.1),
      counted_group _ body.0 _ _ _ body.2
          (rw c.field_number-in-StartGroup.ensures.number at c.tag_len-start.ensures)
          c.saturating_add.ensures,
    )

-- ---- the body of a group

pub group_len-loop-tag-init : goal.group_len-loop-tag-init
group_len-loop-tag-init t c = (none, takes_none _ _, refl)

pub group_len-returns-in_err-tag-clause-fault : goal.group_len-returns-in_err-tag-clause-fault
group_len-returns-in_err-tag-clause-fault t c =
    let p = err_from_is_err_and c.from_residual.result c.from_residual.ensures.1 in
    let so_far = c.loop-tag.invariant in
    rw (p.1, p.2) (past so_far.0 _ so_far.1 tt (no_tag c.in_err-tag.ensures.fault))

pub group_len-returns-in_err-record-clause-fault :
    goal.group_len-returns-in_err-record-clause-fault
group_len-returns-in_err-record-clause-fault t c =
    let r = c.from_residual-in_err-record in
    let p = err_from_is_err_and r.result r.ensures.1 in
    let so_far = c.loop-tag.invariant in
    rw (p.1, p.2) (past so_far.0 _ so_far.1 tt
    (bad_payload _ _ _ (rw c.in-Some.is at c.in_ok-tag.ensures.record)
    (rw c.in-Some.is at c.in_ok-tag.ensures.inside) c.in_err-record.ensures.fault))

pub group_len-loop-tag-preserved : goal.group_len-loop-tag-preserved
group_len-loop-tag-preserved t c =
    let so_far = c.loop-tag.invariant in
    let p = c.in_ok-record.ensures.ok in (
      push so_far.0 _ p.0,
      takes_field _ so_far.0 _ _ p.0 _ _ _ _ so_far.1
          (rw c.in-Some.is at c.in_ok-tag.ensures.record) p.1,
      counted_push so_far.0 _ p.0 _ _ _ so_far.2 p.2 c.saturating_add-len.ensures,
    )

pub group_len-returns-clause-ok : goal.group_len-returns-clause-ok
group_len-returns-clause-ok t c =
    let so_far = c.loop-tag.invariant in (
      so_far.0,
      takes_until _ _ so_far.0 _ _ _ so_far.1
          (at_none _ _ c.in_default.not-Some c.in_ok-tag.ensures.end),
      counted_body _ so_far.0 _ _ _ so_far.2 c.tag_len.ensures c.saturating_add.ensures,
    )
