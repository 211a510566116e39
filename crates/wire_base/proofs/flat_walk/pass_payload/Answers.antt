use Rattle.std.proofs.Common.{◌≡◌, ◌≢◌, arith, refl, rules, length-take-le, take}
use Rattle.std.proofs.lemmas.Result.{err_from_is_err_and}
use Rattle.wire_base.specs.declared.tag.WireType.TheVariants.{LengthDelimited}
use Rattle.wire_base.specs.Fault.{no_slot, no_bytes}
use Rattle.wire_base.specs.Field.{bytes}
use Rattle.wire_base.specs.TagView.{tag_type}
use Rattle.wire_base.proofs.Decoded.{no_room_for_bytes, left_after-bytes}
use Rattle.wire_base.proofs.Items.{flat_fault, flat_takes}
use Rattle.wire_base.proofs.Payloads.{takes_bytes}
use Rattle.wire_base.proofs.flat_walk.pass_payload.Goals as goal

pub returns-in_err-register_unknown_field-clause-fault : goal.returns-in_err-register_unknown_field-clause-fault
returns-in_err-register_unknown_field-clause-fault c =
    let p = err_from_is_err_and c.from_residual.result c.from_residual.ensures.1 in
    let refused = c.in_err-register_unknown_field.ensures in
    rw (p.1, p.2, refused.err) (no_slot refused.none_left)

-- ---- a length and its bytes

pub returns-in_err-len-clause-fault : goal.returns-in_err-len-clause-fault
returns-in_err-len-clause-fault c =
    let r = c.from_residual-in_err-len in
    let p = err_from_is_err_and r.result r.ensures.1 in
    let kind : tag_type c.args.tag ≡ LengthDelimited = search rules in
    let slot = c.in_ok-register_unknown_field.ensures.taken in
    rw (p.1, p.2, kind) (no_bytes slot c.in_err-len.ensures.fault)

pub returns-in_err-register_unknown_bytes-clause-fault : goal.returns-in_err-register_unknown_bytes-clause-fault
returns-in_err-register_unknown_bytes-clause-fault c =
    let r = c.from_residual-in_err-register_unknown_bytes in
    let p = err_from_is_err_and r.result r.ensures.1 in
    let kind : tag_type c.args.tag ≡ LengthDelimited = search rules in
    let slot = c.in_ok-register_unknown_field.ensures in
    let len = c.in_ok-len.ensures in
    let refused = c.in_err-register_unknown_bytes.ensures in
    let full = rw slot.ok at refused.none_left in
    rw (p.1, p.2, refused.err, kind)
    (no_room_for_bytes _ _ _ _ _ slot.taken len.ok len.there full)

pub returns-then-eq-clause-ok : goal.returns-then-eq-clause-ok
returns-then-eq-clause-ok c =
    let kind : tag_type c.args.tag ≡ LengthDelimited = search rules in
    let slot = c.in_ok-register_unknown_field.ensures in
    let len = c.in_ok-len.ensures in
    let room = c.in_ok-register_unknown_bytes.ensures in
    let mid = c.decode_length.new.buf.now in
    rw kind (
      bytes (take c.in_ok-len.len mid),
      takes_bytes _ _ slot.taken _ _ mid _ len.ok len.there c.advance.ensures.value
          (rw slot.ok at room.taken),
      left_after-bytes _ _ _ _ _ mid slot.ok room.ok refl len.there,
      omega (arith, length-take-le _ mid len.there),
    )

-- ---- a payload of another kind

pub returns-in_err-skip_field_depth-clause-fault : goal.returns-in_err-skip_field_depth-clause-fault
returns-in_err-skip_field_depth-clause-fault c =
    let r = c.from_residual-in_err-skip_field_depth in
    let p = err_from_is_err_and r.result r.ensures.1 in
    let slot = c.in_ok-register_unknown_field.ensures.taken in
    rw (p.1, p.2) (flat_fault _ _ _ _ _ _ slot c.requires.flat
    c.in_err-skip_field_depth.ensures.fault)

pub returns-clause-ok : goal.returns-clause-ok
returns-clause-ok c =
    let fixed : tag_type c.args.tag ≢ LengthDelimited = search rules in
    let slot = c.in_ok-register_unknown_field.ensures in
    let (p, skipped) = c.in_ok-skip_field_depth.ensures.ok in
    flat_takes _ _ _ _ _ p _ _ c.requires.flat fixed slot.taken slot.ok skipped
