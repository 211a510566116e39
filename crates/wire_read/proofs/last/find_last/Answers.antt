use Rattle.std.proofs.Common.{◌≡◌, ◌≢◌, ℕ, ◌<◌, length, Some, rules, refl, subst}
use Rattle.std.proofs.lemmas.Result.{err_from_is_err_and}
use Rattle.wire_base.specs.Charge.{payload_charge}
use Rattle.wire_base.specs.Field.{Payload}
use Rattle.wire_base.specs.Limits.{uncounted}
use Rattle.wire_base.specs.Read.{Reads}
use Rattle.wire_base.specs.Tag.{IsTagSpelling}
use Rattle.wire_base.specs.Taken.{TakesPayload}
use Rattle.wire_base.specs.TagView.{tag_number, tag_type}
use Rattle.wire_read.proofs.LastRecords.{begins, last_is, last_stays, tag_stops, payload_stops}
use Rattle.wire_read.proofs.last.find_last.Goals as goal

pub loop-rest-init : goal.loop-rest-init
loop-rest-init c = begins c.records_one_by_one.ensures c.args.number _ c.args.bytes.now

pub returns-in_err-tag-clause-fault : goal.returns-in_err-tag-clause-fault
returns-in_err-tag-clause-fault c =
    let p = err_from_is_err_and c.from_residual.result c.from_residual.ensures.1 in
    let some : 0 < length c.loop-rest.rest.now = search rules in
    rw (p.1, p.2) (tag_stops c.args.number c.args.depth _ _ _ _ c.loop-rest.invariant some
    c.in_err-tag.ensures.fault)

pub returns-in_err-skip_field_depth-clause-fault :
    goal.returns-in_err-skip_field_depth-clause-fault
returns-in_err-skip_field_depth-clause-fault c =
    let r = c.from_residual-in_err-skip_field_depth in
    let p = err_from_is_err_and r.result r.ensures.1 in
    let some : 0 < length c.loop-rest.rest.now = search rules in
    rw (p.1, p.2) (payload_stops c.args.number _ c.args.depth _ _ _ _ _ _ c.loop-rest.invariant some
    c.in_ok-tag.ensures.ok c.in_err-skip_field_depth.ensures.fault)

pub loop-rest-preserved-then-field_number-number : goal.loop-rest-preserved-then-field_number-number
loop-rest-preserved-then-field_number-number c =
    let same : tag_number c.in_ok-tag.tag ≡ c.args.number = search rules in
    let kind : c.wire_type.result ≡ tag_type c.in_ok-tag.tag = search rules in
    let rest = c.loop-rest.rest.now in
    let behind = c.decode.new.buf.now in
    let new = c.skip_field_depth.new.buf.now in
    let w = tag_type c.in_ok-tag.tag in
    last_is c.charges_add_up.ensures c.records_one_by_one.ensures c.joined_texts_spell.ensures
    c.args.number c.args.depth _ rest behind new _ w _ c.loop-rest.invariant
    (subst (λ n. Reads rest (IsTagSpelling n w) behind) same c.in_ok-tag.ensures.ok)
    (subst (λ n. (p : Payload) × TakesPayload (payload_charge p) (uncounted c.args.depth) n w p
    behind new) same c.in_ok-skip_field_depth.ensures.ok) (rw kind refl)

pub loop-rest-preserved : goal.loop-rest-preserved
loop-rest-preserved c =
    let other : tag_number c.in_ok-tag.tag ≢ c.args.number = search rules in
    last_stays c.charges_add_up.ensures c.records_one_by_one.ensures c.joined_texts_spell.ensures
    c.args.number _ c.args.depth _ _ _ _ _ _ c.loop-rest.invariant other c.in_ok-tag.ensures.ok
    c.in_ok-skip_field_depth.ensures.ok
