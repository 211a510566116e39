use Rattle.std.proofs.Common.{sym, ◌∙◌, ap}
use Rattle.std.proofs.lemmas.Result.{err_from_is_err_and}
use Rattle.wire_base.proofs.Decoded.{no_room_for_bytes}
use Rattle.wire_base.proofs.LimitsLaws.{left_after-nothing}
use Rattle.wire_base.proofs.Payloads.{takes_until}
use Rattle.wire_base.proofs.Results.{at_none}
use Rattle.wire_base.proofs.Skips.{stops_fixed64, stops_fixed32}
use Rattle.wire_base.proofs.Takes.{takes_none, takes_field, left_after-push}
use Rattle.wire_base.specs.Charge.{payload_charge}
use Rattle.wire_base.specs.Fault.{no_slot, no_varint, no_bytes, no_level, in_group, end_outside}
use Rattle.wire_base.specs.Fault.{no_tag, bad_payload, past}
use Rattle.wire_base.specs.Field.{none, push}
use Rattle.wire_base.specs.Limits.{Limits, inner, left_after}
use Rattle.wire_structs.proofs.PassedRecords.{passes_varint, passes_fixed64, passes_fixed32}
use Rattle.wire_structs.proofs.PassedRecords.{passes_bytes}
use Rattle.wire_structs.proofs.PassedRecords.{passes_group}
use Rattle.wire_structs.proofs.passing.+pass.Goals as goal

-- ---- one payload

pub pass_payload-returns-in_err-register_unknown_field-clause-fault :
    goal.pass_payload-returns-in_err-register_unknown_field-clause-fault
pass_payload-returns-in_err-register_unknown_field-clause-fault g t c =
    let p = err_from_is_err_and c.from_residual.result c.from_residual.ensures.1 in
    let refused = c.in_err-register_unknown_field.ensures in
    rw (p.1, p.2, refused.err) (no_slot refused.none_left)

pub pass_payload-returns-in_err-decode_varint-in-Varint-clause-fault :
    goal.pass_payload-returns-in_err-decode_varint-in-Varint-clause-fault
pass_payload-returns-in_err-decode_varint-in-Varint-clause-fault g t c =
    let r = c.from_residual-in_err-decode_varint-in-Varint in
    let p = err_from_is_err_and r.result r.ensures.1 in
    rw (p.1, p.2, sym c.wire_type.ensures ∙ c.in-Varint.is)
    (no_varint c.in_ok-register_unknown_field.ensures.taken
    (c.in_err-decode_varint-in-Varint).ensures.fault)

pub pass_payload-returns-in_ok-decode_varint-in-Varint-clause-ok :
    goal.pass_payload-returns-in_ok-decode_varint-in-Varint-clause-ok
pass_payload-returns-in_ok-decode_varint-in-Varint-clause-ok g t c =
    let slot = c.in_ok-register_unknown_field.ensures in
    passes_varint _ _ _ _ slot.taken _ _ _ (sym c.wire_type.ensures ∙ c.in-Varint.is)
    (c.in_ok-decode_varint-in-Varint).ensures.ok slot.ok

pub pass_payload-returns-in-Fixed64-clause-ok : goal.pass_payload-returns-in-Fixed64-clause-ok
pass_payload-returns-in-Fixed64-clause-ok g t c =
    let slot = c.in_ok-register_unknown_field.ensures in
    passes_fixed64 _ _ _ _ slot.taken c.pass_bytes.result _ _
    (sym c.wire_type.ensures ∙ c.in-Fixed64.is) c.pass_bytes.ensures.ok c.pass_bytes.ensures.long
    slot.ok

pub pass_payload-returns-in-Fixed64-clause-fault : goal.pass_payload-returns-in-Fixed64-clause-fault
pass_payload-returns-in-Fixed64-clause-fault g t c =
    stops_fixed64 _ _ _ c.in_ok-register_unknown_field.ensures.taken c.pass_bytes.result _
    (sym c.wire_type.ensures ∙ c.in-Fixed64.is) c.pass_bytes.ensures.err c.pass_bytes.ensures.short

pub pass_payload-returns-in-Fixed32-clause-ok : goal.pass_payload-returns-in-Fixed32-clause-ok
pass_payload-returns-in-Fixed32-clause-ok g t c =
    let slot = c.in_ok-register_unknown_field.ensures in
    let passed = c.pass_bytes-in-Fixed32 in
    passes_fixed32 _ _ _ _ slot.taken passed.result _ _
    (sym c.wire_type.ensures ∙ c.in-Fixed32.is) passed.ensures.ok passed.ensures.long slot.ok

pub pass_payload-returns-in-Fixed32-clause-fault : goal.pass_payload-returns-in-Fixed32-clause-fault
pass_payload-returns-in-Fixed32-clause-fault g t c =
    let passed = c.pass_bytes-in-Fixed32 in
    stops_fixed32 _ _ _ c.in_ok-register_unknown_field.ensures.taken passed.result _
    (sym c.wire_type.ensures ∙ c.in-Fixed32.is) passed.ensures.err passed.ensures.short

pub pass_payload-returns-in_err-len-in-LengthDelimited-clause-fault :
    goal.pass_payload-returns-in_err-len-in-LengthDelimited-clause-fault
pass_payload-returns-in_err-len-in-LengthDelimited-clause-fault g t c =
    let r = c.from_residual-in_err-len-in-LengthDelimited in
    let p = err_from_is_err_and r.result r.ensures.1 in
    rw (p.1, p.2, sym c.wire_type.ensures ∙ c.in-LengthDelimited.is)
    (no_bytes c.in_ok-register_unknown_field.ensures.taken
    (c.in_err-len-in-LengthDelimited).ensures.fault)

pub pass_payload-returns-in_err-register_unknown_bytes-in-LengthDelimited-clause-fault :
    goal.pass_payload-returns-in_err-register_unknown_bytes-in-LengthDelimited-clause-fault
pass_payload-returns-in_err-register_unknown_bytes-in-LengthDelimited-clause-fault g t c =
    let r = c.from_residual-in_err-register_unknown_bytes-in-LengthDelimited in
    let p = err_from_is_err_and r.result r.ensures.1 in
    let slot = c.in_ok-register_unknown_field.ensures in
    let len = (c.in_ok-len-in-LengthDelimited).ensures in
    let refused = (c.in_err-register_unknown_bytes-in-LengthDelimited).ensures in
    let full = rw slot.ok at refused.none_left in
    rw (p.1, p.2, refused.err, sym c.wire_type.ensures ∙ c.in-LengthDelimited.is)
    (no_room_for_bytes _ _ _ _ _ slot.taken len.ok len.there full)

pub pass_payload-returns-in_ok-register_unknown_bytes-in-LengthDelimited-clause-ok :
    goal.pass_payload-returns-in_ok-register_unknown_bytes-in-LengthDelimited-clause-ok
pass_payload-returns-in_ok-register_unknown_bytes-in-LengthDelimited-clause-ok g t c =
    let slot = c.in_ok-register_unknown_field.ensures in
    let len = (c.in_ok-len-in-LengthDelimited).ensures in
    let room = (c.in_ok-register_unknown_bytes-in-LengthDelimited).ensures in
    passes_bytes _ _ _ _ slot.taken _ _ _ _ _ (sym c.wire_type.ensures ∙ c.in-LengthDelimited.is)
    slot.ok len.ok len.there (rw slot.ok at room.taken) room.ok c.advance.ensures.value

pub pass_payload-returns-in_err-descend-in-StartGroup-clause-fault :
    goal.pass_payload-returns-in_err-descend-in-StartGroup-clause-fault
pass_payload-returns-in_err-descend-in-StartGroup-clause-fault g t c =
    let r = c.from_residual-in_err-descend-in-StartGroup in
    let p = err_from_is_err_and r.result r.ensures.1 in
    let slot = c.in_ok-register_unknown_field.ensures in
    let refused = (c.in_err-descend-in-StartGroup).ensures in
    let level = rw slot.ok at refused.none_left in
    rw (p.1, p.2, refused.err, sym c.wire_type.ensures ∙ c.in-StartGroup.is)
    (no_level slot.taken level)

pub pass_payload-returns-in_err-pass_group-in-StartGroup-clause-fault :
    goal.pass_payload-returns-in_err-pass_group-in-StartGroup-clause-fault
pass_payload-returns-in_err-pass_group-in-StartGroup-clause-fault g t c =
    let r = c.from_residual-in_err-pass_group-in-StartGroup in
    let p = err_from_is_err_and r.result r.ensures.1 in
    let slot = c.in_ok-register_unknown_field.ensures in
    let level = (c.in_ok-descend-in-StartGroup).ensures in
    let taken = rw slot.ok at level.taken in
    let fault = rw (level.ok ∙ ap inner slot.ok, c.field_number.ensures.number) at
    (c.in_err-pass_group-in-StartGroup).ensures.fault in
    rw (p.1, p.2, sym c.wire_type.ensures ∙ c.in-StartGroup.is) (in_group slot.taken taken fault)

pub pass_payload-returns-in_ok-pass_group-in-StartGroup-clause-ok :
    goal.pass_payload-returns-in_ok-pass_group-in-StartGroup-clause-ok
pass_payload-returns-in_ok-pass_group-in-StartGroup-clause-ok g t c =
    let slot = c.in_ok-register_unknown_field.ensures in
    let level = (c.in_ok-descend-in-StartGroup).ensures in
    passes_group _ _ _ _ slot.taken _ _ _ _ (sym c.wire_type.ensures ∙ c.in-StartGroup.is)
    (rw slot.ok at level.taken) (level.ok ∙ ap inner slot.ok)
    (rw c.field_number.ensures.number at (c.in_ok-pass_group-in-StartGroup).ensures.ok)
    c.ascend.ensures

pub pass_payload-returns-in-EndGroup-clause-fault :
    goal.pass_payload-returns-in-EndGroup-clause-fault
pass_payload-returns-in-EndGroup-clause-fault g t c =
    rw (sym c.wire_type.ensures ∙ c.in-EndGroup.is)
    (end_outside c.in_ok-register_unknown_field.ensures.taken)

-- ---- the body of a group

pub pass_group-loop-tag-init : goal.pass_group-loop-tag-init
pass_group-loop-tag-init g t c = (none, takes_none _ _, sym (left_after-nothing _))

pub pass_group-returns-in_err-tag-clause-fault : goal.pass_group-returns-in_err-tag-clause-fault
pass_group-returns-in_err-tag-clause-fault g t c =
    let p = err_from_is_err_and c.from_residual.result c.from_residual.ensures.1 in
    let so_far = c.loop-tag.invariant in
    rw (p.1, p.2) (past so_far.0 _ so_far.1 tt (no_tag c.in_err-tag.ensures.fault))

pub pass_group-returns-clause-ok : goal.pass_group-returns-clause-ok
pass_group-returns-clause-ok g t c =
    let so_far = c.loop-tag.invariant in (
      so_far.0,
      takes_until _ _ so_far.0 _ _ _ so_far.1
          (at_none _ _ c.in_default.not-Some c.in_ok-tag.ensures.end),
      so_far.2,
    )

pub pass_group-loop-tag-preserved : goal.pass_group-loop-tag-preserved
pass_group-loop-tag-preserved g t c =
    let so_far = c.loop-tag.invariant in
    let p = c.in_ok-pass_payload.ensures.ok in (
      push so_far.0 _ p.0,
      takes_field _ so_far.0 _ _ p.0 _ _ _ _ so_far.1
          (rw c.in-Some.is at c.in_ok-tag.ensures.record) (rw so_far.2 at p.1),
      p.2 ∙ ap (λ (l : Limits). left_after l (payload_charge p.0)) so_far.2
          ∙ left_after-push _ so_far.0 _ p.0,
    )

pub pass_group-returns-in_err-pass_payload-clause-fault :
    goal.pass_group-returns-in_err-pass_payload-clause-fault
pass_group-returns-in_err-pass_payload-clause-fault g t c =
    let r = c.from_residual-in_err-pass_payload in
    let p = err_from_is_err_and r.result r.ensures.1 in
    let so_far = c.loop-tag.invariant in
    rw (p.1, p.2) (past so_far.0 _ so_far.1 tt
    (bad_payload _ _ _ (rw c.in-Some.is at c.in_ok-tag.ensures.record)
    (rw c.in-Some.is at c.in_ok-tag.ensures.inside)
    (rw so_far.2 at c.in_err-pass_payload.ensures.fault)))
