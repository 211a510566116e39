use Rattle.std.proofs.Common.{◌≡◌, ◌≢◌, ◌<◌, ◌^◌, arith, length, rules}
use Rattle.std.proofs.lemmas.Result.{err_from_is_err_and}
use Rattle.wire_base.specs.declared.tag.WireType.TheVariants.{StartGroup, EndGroup}
use Rattle.wire_base.specs.Items.{no_tag, no_slot, bad_payload}
use Rattle.wire_base.specs.TagView.{tag_type}
use Rattle.wire_base.proofs.Items.{walked_none, walked_end, walked_start, walked_whole, walked_bytes, walked_stops}
use Rattle.wire_base.proofs.ReadLaws.{Reads-shorter}
use Rattle.wire_base.proofs.flat_walk.walk.Goals as goal

pub loop-rest-init : goal.loop-rest-init
loop-rest-init c = walked_none c.args.context.now c.args.span.now

pub returns-in_err-tag-clause-fault : goal.returns-in_err-tag-clause-fault
returns-in_err-tag-clause-fault c =
    let p = err_from_is_err_and c.from_residual.result c.from_residual.ensures.1 in
    rw (p.1, p.2) (walked_stops _ _ _ _ _ _ _ _ c.loop-rest.invariant
    (no_tag (search rules) c.in_err-tag.ensures.fault))

-- ---- an end tag

pub loop-rest-preserved-in-EndGroup : goal.loop-rest-preserved-in-EndGroup
loop-rest-preserved-in-EndGroup c =
    let kind : tag_type c.in_ok-tag.tag ≡ EndGroup = search rules in
    walked_end _ _ _ _ _ _ _ _ c.loop-rest.invariant c.in_ok-tag.tag.field_number _
    (rw kind at c.in_ok-tag.ensures.ok) c.saturating_sub-level.ensures

-- ---- a start tag

pub returns-in_err-register_unknown_field-in-StartGroup-clause-fault : goal.returns-in_err-register_unknown_field-in-StartGroup-clause-fault
returns-in_err-register_unknown_field-in-StartGroup-clause-fault c =
    let r = c.from_residual-in_err-register_unknown_field-in-StartGroup in
    let p = err_from_is_err_and r.result r.ensures.1 in
    let h = (c.in_err-register_unknown_field-in-StartGroup).ensures in
    let kind : tag_type c.in_ok-tag.tag ≢ EndGroup = search rules in
    rw (p.1, p.2, h.err) (walked_stops _ _ _ _ _ _ _ _ c.loop-rest.invariant
    (no_slot c.in_ok-tag.tag.field_number _ _ c.in_ok-tag.ensures.ok kind h.none_left))

pub loop-rest-preserved-in-StartGroup : goal.loop-rest-preserved-in-StartGroup
loop-rest-preserved-in-StartGroup c =
    let kind : tag_type c.in_ok-tag.tag ≡ StartGroup = search rules in
    let h = (c.in_ok-register_unknown_field-in-StartGroup).ensures in
    rw (c.max-depth.ensures, h.ok) (walked_start _ _ _ _ _ _ _ _ c.loop-rest.invariant
    c.in_ok-tag.tag.field_number _ (rw kind at c.in_ok-tag.ensures.ok) h.taken
    c.saturating_add-level.ensures)

-- ---- a record that is no group

pub loop-rest-preserved : goal.loop-rest-preserved
loop-rest-preserved c =
    let flat : tag_type c.in_ok-tag.tag ≢ StartGroup = search rules in
    let (p, taken, left, more) = c.in_ok-bytes-in_default.ensures.ok in
    rw left (walked_whole _ _ _ _ _ _ _ _ c.loop-rest.invariant c.in_ok-tag.tag.field_number _ p _
    _ c.in_ok-tag.ensures.ok flat taken more)

pub returns-in_err-bytes-in_default-clause-fault : goal.returns-in_err-bytes-in_default-clause-fault
returns-in_err-bytes-in_default-clause-fault c =
    let r = c.from_residual-in_err-bytes-in_default in
    let p = err_from_is_err_and r.result r.ensures.1 in
    let flat : tag_type c.in_ok-tag.tag ≢ StartGroup = search rules in
    let kind : tag_type c.in_ok-tag.tag ≢ EndGroup = search rules in
    rw (p.1, p.2) (walked_stops _ _ _ _ _ _ _ _ c.loop-rest.invariant
    (bad_payload c.in_ok-tag.tag.field_number _ _ c.in_ok-tag.ensures.ok kind flat
    c.in_err-bytes-in_default.ensures.fault))

pub overflow_add-bytes : goal.overflow_add-bytes
overflow_add-bytes c =
    let passed = walked_bytes _ _ _ _ _ _ _ c.loop-rest.invariant in
    let few = c.in_ok-bytes-in_default.ensures.few in
    let tag = Reads-shorter _ _ _ c.in_ok-tag.ensures.ok in
    let whole : length c.args.span.now < 2 ^ 64 = search rules in
    omega (arith, passed, few, tag, whole)
