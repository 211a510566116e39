use Rattle.std.proofs.Common.{◌≡◌, sym, ◌∙◌, inl, rules}
use Rattle.std.proofs.lemmas.Result.{err_from_is_err_and}
use Rattle.wire_base.specs.Fault.{no_slot, no_varint, short_fixed64, short_fixed32, no_bytes, end_outside}
use Rattle.wire_base.specs.Limits.{bytes_charge, one_field}
use Rattle.wire_base.specs.TagView.{tag_type}
use Rattle.wire_base.specs.declared.tag.WireType.TheVariants.{EndGroup}
use Rattle.wire_base.proofs.Decoded.{no_memory_for_bytes, no_room_for_bytes, left_after-bytes}
use Rattle.wire_base.proofs.LimitsLaws.{NoCountGrew-again, NoCountGrew-left_after}
use Rattle.wire_base.proofs.Payloads.{takes_bytes}
use Rattle.wire_base.proofs.unknown_fields.decode.decode_flat.Goals as goal

pub returns-in_err-register_unknown_field-clause-fault : goal.returns-in_err-register_unknown_field-clause-fault
returns-in_err-register_unknown_field-clause-fault g c =
    let p = err_from_is_err_and c.from_residual.result c.from_residual.ensures.1 in
    let refused = c.in_err-register_unknown_field.ensures in
    rw (p.1, p.2, refused.err) (inl (no_slot refused.none_left))

pub returns-in_err-decode_varint-in-Varint-clause-fault : goal.returns-in_err-decode_varint-in-Varint-clause-fault
returns-in_err-decode_varint-in-Varint-clause-fault g c =
    let r = c.from_residual-in_err-decode_varint-in-Varint in
    let p = err_from_is_err_and r.result r.ensures.1 in
    let slot = c.in_ok-register_unknown_field.ensures.taken in
    rw (
      p.1,
      p.2,
      sym c.wire_type.ensures
          ∙ c.in-Varint.is,
    ) (inl (no_varint slot (c.in_err-decode_varint-in-Varint).ensures.fault))

pub returns-in_err-try_get_u64_le-in-Fixed64-clause-fault : goal.returns-in_err-try_get_u64_le-in-Fixed64-clause-fault
returns-in_err-try_get_u64_le-in-Fixed64-clause-fault g c =
    let r = c.from_residual-in_err-try_get_u64_le-in-Fixed64 in
    let p = err_from_is_err_and r.result r.ensures.1 in
    let short = (c.in_err-try_get_u64_le-in-Fixed64).ensures.rest in
    rw (
      p.1,
      p.2,
      sym c.wire_type.ensures
          ∙ c.in-Fixed64.is,
    )
    (inl (short_fixed64 c.in_ok-register_unknown_field.ensures.taken short.0))

pub returns-in_err-try_get_u32_le-in-Fixed32-clause-fault : goal.returns-in_err-try_get_u32_le-in-Fixed32-clause-fault
returns-in_err-try_get_u32_le-in-Fixed32-clause-fault g c =
    let r = c.from_residual-in_err-try_get_u32_le-in-Fixed32 in
    let p = err_from_is_err_and r.result r.ensures.1 in
    let short = (c.in_err-try_get_u32_le-in-Fixed32).ensures.rest in
    rw (
      p.1,
      p.2,
      sym c.wire_type.ensures
          ∙ c.in-Fixed32.is,
    )
    (inl (short_fixed32 c.in_ok-register_unknown_field.ensures.taken short.0))

pub returns-in_err-len-in-LengthDelimited-clause-fault : goal.returns-in_err-len-in-LengthDelimited-clause-fault
returns-in_err-len-in-LengthDelimited-clause-fault g c =
    let r = c.from_residual-in_err-len-in-LengthDelimited in
    let p = err_from_is_err_and r.result r.ensures.1 in
    let slot = c.in_ok-register_unknown_field.ensures.taken in
    rw (
      p.1,
      p.2,
      sym c.wire_type.ensures
          ∙ c.in-LengthDelimited.is,
    )
    (inl (no_bytes slot (c.in_err-len-in-LengthDelimited).ensures.fault))

pub returns-in_err-register_unknown_bytes-in-LengthDelimited-clause-fault : goal.returns-in_err-register_unknown_bytes-in-LengthDelimited-clause-fault
returns-in_err-register_unknown_bytes-in-LengthDelimited-clause-fault g c =
    let r = c.from_residual-in_err-register_unknown_bytes-in-LengthDelimited in
    let p = err_from_is_err_and r.result r.ensures.1 in
    let slot = c.in_ok-register_unknown_field.ensures in
    let len = (c.in_ok-len-in-LengthDelimited).ensures in
    let refused = (c.in_err-register_unknown_bytes-in-LengthDelimited).ensures in
    let full = rw slot.ok at refused.none_left in
    rw (
      p.1,
      p.2,
      refused.err,
      sym c.wire_type.ensures
          ∙ c.in-LengthDelimited.is,
    ) (inl (no_room_for_bytes _ _ _ _ _ slot.taken len.ok len.there full))

pub returns-in_err-take_bytes-in-LengthDelimited-clause-fault : goal.returns-in_err-take_bytes-in-LengthDelimited-clause-fault
returns-in_err-take_bytes-in-LengthDelimited-clause-fault g c =
    let r = c.from_residual-in_err-take_bytes-in-LengthDelimited in
    let p = err_from_is_err_and r.result r.ensures.1 in
    let slot = c.in_ok-register_unknown_field.ensures in
    let len = (c.in_ok-len-in-LengthDelimited).ensures in
    let room = (c.in_ok-register_unknown_bytes-in-LengthDelimited).ensures in
    let taken = rw slot.ok at room.taken in
    rw (
      p.1,
      p.2,
      sym c.wire_type.ensures
          ∙ c.in-LengthDelimited.is,
    ) (no_memory_for_bytes _ _ _ _ _ slot.taken len.ok len.there taken)

pub returns-in_ok-take_bytes-in-LengthDelimited-clause-ok : goal.returns-in_ok-take_bytes-in-LengthDelimited-clause-ok
returns-in_ok-take_bytes-in-LengthDelimited-clause-ok g c =
    let slot = c.in_ok-register_unknown_field.ensures in
    let len = (c.in_ok-len-in-LengthDelimited).ensures in
    let room = (c.in_ok-register_unknown_bytes-in-LengthDelimited).ensures in
    let taken = rw slot.ok at room.taken in
    let b = (c.in_ok-take_bytes-in-LengthDelimited).ensures in
    rw (
      sym c.wire_type.ensures
          ∙ c.in-LengthDelimited.is,
      b.ok,
    )
    (takes_bytes _ _ slot.taken _ _ _ _ len.ok len.there b.rest taken)

pub returns-in_ok-take_bytes-in-LengthDelimited-clause-charged : goal.returns-in_ok-take_bytes-in-LengthDelimited-clause-charged
returns-in_ok-take_bytes-in-LengthDelimited-clause-charged g c =
    let slot = c.in_ok-register_unknown_field.ensures in
    let len = (c.in_ok-len-in-LengthDelimited).ensures in
    let room = (c.in_ok-register_unknown_bytes-in-LengthDelimited).ensures in
    let b = (c.in_ok-take_bytes-in-LengthDelimited).ensures in
    left_after-bytes _ _ _ _ _ _ slot.ok room.ok b.ok len.there

pub returns-in-StartGroup-clause-fault : goal.returns-in-StartGroup-clause-fault
returns-in-StartGroup-clause-fault g c =
    let is : tag_type c.args.tag ≡ EndGroup = search rules in
    rw is (inl (end_outside c.in_ok-register_unknown_field.ensures.taken))

pub returns-in_err-take_bytes-in-LengthDelimited-clause-counts : goal.returns-in_err-take_bytes-in-LengthDelimited-clause-counts
returns-in_err-take_bytes-in-LengthDelimited-clause-counts g c =
    let r = c.from_residual-in_err-take_bytes-in-LengthDelimited in
    let p = err_from_is_err_and r.result r.ensures.1 in
    let slot = c.in_ok-register_unknown_field.ensures in
    let room = (c.in_ok-register_unknown_bytes-in-LengthDelimited).ensures in
    rw (p.1, room.ok, slot.ok) (NoCountGrew-again _ _ _ (NoCountGrew-left_after _ one_field)
    (NoCountGrew-left_after _ (bytes_charge (c.in_ok-len-in-LengthDelimited).len)))
