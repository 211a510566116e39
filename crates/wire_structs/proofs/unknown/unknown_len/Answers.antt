use Rattle.std.proofs.Common.{◌<◌, length, refl, rules}
use Rattle.std.proofs.lemmas.Result.{err_from_is_err_and}
use Rattle.wire_base.proofs.Takes.{takes_none, takes_field}
use Rattle.wire_base.specs.Ending.{by_input}
use Rattle.wire_base.specs.Fault.{no_tag, bad_tag, bad_payload, past}
use Rattle.wire_base.specs.Field.{none, push}
use Rattle.wire_structs.proofs.UnknownKept.{counted_more, whole_records}
use Rattle.wire_structs.proofs.unknown.unknown_len.Goals as goal

pub loop-buf-init : goal.loop-buf-init
loop-buf-init g c = (none, takes_none _ _, refl)

pub loop-buf-preserved : goal.loop-buf-preserved
loop-buf-preserved g c =
    let so_far = c.loop-buf.invariant in
    let p = c.in_ok-taken.ensures.ok in
    let owned = rw c.field_number.ensures.number at c.counted.ensures.owned in
    let other = rw c.field_number.ensures.number at c.counted.ensures.other in (
      push so_far.0 _ p.0,
      takes_field _ so_far.0 _ _ p.0 _ _ _ _ so_far.1 c.in_ok-tag.ensures.ok p.1,
      counted_more g.M.FieldNumbers.owns so_far.0 _ p.0 _ _ _ _ so_far.2 p.2
          (owned p.0) (other p.0) c.saturating_add-len.ensures,
    )

pub returns-in_err-tag-clause-fault : goal.returns-in_err-tag-clause-fault
returns-in_err-tag-clause-fault g c =
    let p = err_from_is_err_and c.from_residual.result c.from_residual.ensures.1 in
    let so_far = c.loop-buf.invariant in
    let goes : 0 < length c.loop-buf.buf.now = search rules in
    rw (p.1, p.2) (past {ending = by_input} so_far.0 _ so_far.1 goes
    (no_tag (bad_tag c.in_err-tag.ensures.fault)))

pub returns-in_err-taken-clause-fault : goal.returns-in_err-taken-clause-fault
returns-in_err-taken-clause-fault g c =
    let r = c.from_residual-in_err-taken in
    let p = err_from_is_err_and r.result r.ensures.1 in
    let so_far = c.loop-buf.invariant in
    let goes : 0 < length c.loop-buf.buf.now = search rules in
    rw (p.1, p.2) (past {ending = by_input} so_far.0 _ so_far.1 goes
    (bad_payload _ _ _ c.in_ok-tag.ensures.ok tt c.in_err-taken.ensures.fault))

pub returns-clause-ok : goal.returns-clause-ok
returns-clause-ok g c =
    let so_far = c.loop-buf.invariant in
    (so_far.0, whole_records so_far.0 _ _ so_far.1 (search rules), so_far.2)
