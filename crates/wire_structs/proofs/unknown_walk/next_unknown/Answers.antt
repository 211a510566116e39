use Rattle.std.proofs.Common.{◌<◌, ◌∙◌, length, refl, rules}
use Rattle.std.proofs.lemmas.Result.{err_from_is_err_and}
use Rattle.wire_base.proofs.Takes.{takes_none, takes_field}
use Rattle.wire_base.specs.Ending.{by_input}
use Rattle.wire_base.specs.Fault.{no_tag, bad_tag, bad_payload, past}
use Rattle.wire_base.specs.Field.{none, push}
use Rattle.wire_structs.proofs.UnknownWalkLemmas.{given, still_owned}
use Rattle.wire_structs.proofs.unknown_walk.next_unknown.Goals as goal

pub loop-front-init : goal.loop-front-init
loop-front-init g c = (none, takes_none _ _, refl)

pub returns-in_err-tag-clause-fault : goal.returns-in_err-tag-clause-fault
returns-in_err-tag-clause-fault g c =
    let p = err_from_is_err_and c.from_residual.result c.from_residual.ensures.1 in
    let so_far = c.loop-front.invariant in
    let goes : 0 < length c.loop-front.buf.now = search rules in
    rw (p.1, p.2) (past {ending = by_input} so_far.0 _ so_far.1 goes
    (no_tag (bad_tag c.in_err-tag.ensures.fault)))

pub returns-in_err-skip_field_depth-clause-fault :
    goal.returns-in_err-skip_field_depth-clause-fault
returns-in_err-skip_field_depth-clause-fault g c =
    let r = c.from_residual-in_err-skip_field_depth in
    let p = err_from_is_err_and r.result r.ensures.1 in
    let so_far = c.loop-front.invariant in
    let goes : 0 < length c.loop-front.buf.now = search rules in
    rw (p.1, p.2) (past {ending = by_input} so_far.0 _ so_far.1 goes
    (bad_payload _ _ _ c.in_ok-tag.ensures.ok tt c.in_err-skip_field_depth.ensures.fault))

pub returns-then-not-has-clause-given : goal.returns-then-not-has-clause-given
returns-then-not-has-clause-given g c =
    let so_far = c.loop-front.invariant in
    let p = c.in_ok-skip_field_depth.ensures.ok in
    let has = rw c.field_number.ensures.number at c.has.ensures in
    given c.payload_is_field.ensures g.M.FieldNumbers.owns so_far.0 _ _ p.0 _ _ _ _ _ _ so_far.1
    so_far.2 c.in_ok-tag.ensures.ok p.1 (has p.0 ∙ c.if-not-has.true)

pub loop-front-preserved : goal.loop-front-preserved
loop-front-preserved g c =
    let so_far = c.loop-front.invariant in
    let p = c.in_ok-skip_field_depth.ensures.ok in
    let has = rw c.field_number.ensures.number at c.has.ensures in (
      push so_far.0 _ p.0,
      takes_field _ so_far.0 _ _ p.0 _ _ _ _ so_far.1 c.in_ok-tag.ensures.ok p.1,
      still_owned g.M.FieldNumbers.owns so_far.0 _ p.0 so_far.2 (has p.0 ∙ c.if-not-has.false),
    )
