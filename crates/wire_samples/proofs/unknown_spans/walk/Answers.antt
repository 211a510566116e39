use Rattle.std.proofs.Common.{◌≡◌, ◌≢◌, ◌^◌, ◌<◌, false, [], length, rules, sym, ◌∙◌}
use Rattle.std.proofs.lemmas.Bool.{eqb-true}
use Rattle.std.proofs.lemmas.Result.{err_from_is_err_and}
use Rattle.wire_codec.specs.Field.{field, none}
use Rattle.wire_samples.proofs.Countable.{can_count}
use Rattle.wire_samples.proofs.Unknowns.{passed_none, passed_known, passed_other, span_spells, span_shallow, slots_there, no_tag_here, no_payload_here, nothing_left, all_passed, each_passed}
use Rattle.wire_samples.specs.PersonUnknowns.{is_known_number}
use Rattle.wire_samples.proofs.unknown_spans.walk.Goals as goal

pub loop-rest-init : goal.loop-rest-init
loop-rest-init c =
    rw c.new-view.ensures (passed_none c.records_in_order.ensures c.joined_adds_up.ensures _ _)

pub returns-in_err-tag-clause-only : goal.returns-in_err-tag-clause-only
returns-in_err-tag-clause-only c =
    let p = err_from_is_err_and c.from_residual.result c.from_residual.ensures.1 in
    let some : c.loop-rest.rest.now ≢ [] = search rules in
    rw p.1 (λ fs has. absurd (no_tag_here c.records_in_order.ensures c.joined_adds_up.ensures
    _ _ _ _ _ c.loop-rest.invariant some _ c.in_err-tag.ensures.fault fs has))

pub returns-in_err-skip_field_depth-clause-only : goal.returns-in_err-skip_field_depth-clause-only
returns-in_err-skip_field_depth-clause-only c =
    let r = c.from_residual-in_err-skip_field_depth in
    let p = err_from_is_err_and r.result r.ensures.1 in
    rw p.1 (λ fs has. absurd (no_payload_here c.records_in_order.ensures c.joined_adds_up.ensures
    c.no_payload_beside_fault.ensures _ _ _ _ _ _ c.loop-rest.invariant _ _
    c.in_ok-tag.ensures.ok _ c.depth.ensures _ c.in_err-skip_field_depth.ensures.fault fs has))

pub loop-rest-preserved-in-Continue-branch-3 : goal.loop-rest-preserved-in-Continue-branch-3
loop-rest-preserved-in-Continue-branch-3 c =
    let (p, taken) = c.in_ok-skip_field_depth.ensures.ok in
    let laws = c.records_in_order.ensures in
    let adds = c.joined_adds_up.ensures in
    let loop = c.loop-rest.invariant in
    let n = c.in_ok-tag.tag.field_number in
    let tag = c.in_ok-tag.ensures.ok in
    let level = c.depth.ensures in
    let few : c.depth.result < 2 ^ 32 = search rules in
    let pushed = c.in_ok-push_span.ensures in
    let charged = pushed.records (field n p none)
    (span_spells laws adds _ _ _ _ _ _ _ loop n _ p tag _ level taken)
    (span_shallow laws adds _ _ _ _ _ _ _ loop n _ p tag _ level taken few) in
    passed_other laws adds _ _ _ _ _ _ _ loop n _ p tag _ level taken _ _ (search rules)
    pushed.pushed charged.0 charged.1

pub returns-in_err-push_span-clause-only : goal.returns-in_err-push_span-clause-only
returns-in_err-push_span-clause-only c =
    let (p, taken) = c.in_ok-skip_field_depth.ensures.ok in
    let r = c.from_residual-in_err-push_span in
    let q = err_from_is_err_and r.result r.ensures.1 in
    let laws = c.records_in_order.ensures in
    let adds = c.joined_adds_up.ensures in
    let loop = c.loop-rest.invariant in
    let n = c.in_ok-tag.tag.field_number in
    let tag = c.in_ok-tag.ensures.ok in
    let level = c.depth.ensures in
    let few : c.depth.result < 2 ^ 32 = search rules in
    let countable : c.remaining_unknown_fields-slots.result < 2 ^ 64 = search rules in
    let whole : length c.args.bytes.now < 2 ^ 64 = search rules in
    let other : is_known_number n ≡ false = search rules in
    let spelled = span_spells laws adds _ _ _ _ _ _ _ loop n _ p tag _ level taken in
    rw (q.1, q.2) (λ fs has. c.in_err-push_span.ensures.records (field n p none) spelled
    (span_shallow laws adds _ _ _ _ _ _ _ loop n _ p tag _ level taken few)
    (slots_there laws adds _ _ _ _ _ _ _ loop n _ p tag _ level taken other fs has)
    (can_count c.one_spans_charge.ensures c.spans_charge_records.ensures
    c.payloads_inside.ensures _ _ _ _ _ _ _ loop c.remaining_unknown_fields-slots.ensures
    countable whole _ level few))

pub loop-rest-preserved : goal.loop-rest-preserved
loop-rest-preserved c =
    let (p, taken) = c.in_ok-skip_field_depth.ensures.ok in
    passed_known c.records_in_order.ensures c.joined_adds_up.ensures _ _ _ _ _ _ _
    c.loop-rest.invariant c.in_ok-tag.tag.field_number _ p c.in_ok-tag.ensures.ok _
    c.depth.ensures taken (search rules)

pub returns-clause-ok : goal.returns-clause-ok
returns-clause-ok c =
    let none_left = nothing_left _
    (eqb-true _ _ (sym c.is_empty.ensures ∙ c.loop-rest-test.false)) in
    all_passed c.records_in_order.ensures c.joined_texts_spell.ensures _ _ _ _ _
    c.loop-rest.invariant none_left

pub returns-clause-only : goal.returns-clause-only
returns-clause-only c =
    let none_left = nothing_left _
    (eqb-true _ _ (sym c.is_empty.ensures ∙ c.loop-rest-test.false)) in
    λ fs has. each_passed c.records_in_order.ensures c.joined_texts_spell.ensures _ _ _ _ _
    c.loop-rest.invariant none_left fs has.spelled
