use Rattle.std.proofs.Common.{sym, ◌∙◌, arith, refl}
use Rattle.std.proofs.lemmas.Result.{err_from_is_err_and}
use Rattle.wire_base.specs.Fault.{no_varint, no_bytes, no_level, end_outside, no_tag, bad_payload, past}
use Rattle.wire_base.specs.Field.{none, push}
use Rattle.wire_base.proofs.LimitsLaws.{uncounted_slot, uncounted_bytes}
use Rattle.wire_base.proofs.Payloads.{takes_until}
use Rattle.wire_base.proofs.Results.{at_none}
use Rattle.wire_base.proofs.Skips.{skips_varint, skips_fixed64, stops_fixed64, skips_fixed32, stops_fixed32, skips_bytes, skips_group, stops_group}
use Rattle.wire_base.proofs.Takes.{takes_none, takes_field}
use Rattle.wire_base.proofs.skip.+skip.Goals as goal

-- ---- one payload

pub skip_payload-returns-in_err-decode_varint-in-Varint-clause-fault : goal.skip_payload-returns-in_err-decode_varint-in-Varint-clause-fault
skip_payload-returns-in_err-decode_varint-in-Varint-clause-fault g t c =
    let p = err_from_is_err_and c.from_residual.result c.from_residual.ensures.1 in
    rw (
      p.1,
      p.2,
      sym c.wire_type.ensures
          ∙ c.in-Varint.is,
    )
    (no_varint (uncounted_slot _) (c.in_err-decode_varint-in-Varint).ensures.fault)

pub skip_payload-returns-in_ok-decode_varint-in-Varint-clause-ok : goal.skip_payload-returns-in_ok-decode_varint-in-Varint-clause-ok
skip_payload-returns-in_ok-decode_varint-in-Varint-clause-ok g t c =
    skips_varint _ _ _ (uncounted_slot _) _ _ _ (sym c.wire_type.ensures
    ∙ c.in-Varint.is) (c.in_ok-decode_varint-in-Varint).ensures.ok

pub skip_payload-returns-in-Fixed64-clause-ok : goal.skip_payload-returns-in-Fixed64-clause-ok
skip_payload-returns-in-Fixed64-clause-ok g t c =
    skips_fixed64 _ _ _ (uncounted_slot _) c.skip_bytes.result _ _ (sym c.wire_type.ensures
    ∙ c.in-Fixed64.is) c.skip_bytes.ensures.ok c.skip_bytes.ensures.long

pub skip_payload-returns-in-Fixed64-clause-fault : goal.skip_payload-returns-in-Fixed64-clause-fault
skip_payload-returns-in-Fixed64-clause-fault g t c =
    stops_fixed64 _ _ _ (uncounted_slot _) c.skip_bytes.result _ (sym c.wire_type.ensures
    ∙ c.in-Fixed64.is) c.skip_bytes.ensures.err c.skip_bytes.ensures.short

pub skip_payload-returns-in-Fixed32-clause-ok : goal.skip_payload-returns-in-Fixed32-clause-ok
skip_payload-returns-in-Fixed32-clause-ok g t c =
    let s = c.skip_bytes-in-Fixed32 in
    skips_fixed32 _ _ _ (uncounted_slot _) s.result _ _ (sym c.wire_type.ensures
    ∙ c.in-Fixed32.is) s.ensures.ok s.ensures.long

pub skip_payload-returns-in-Fixed32-clause-fault : goal.skip_payload-returns-in-Fixed32-clause-fault
skip_payload-returns-in-Fixed32-clause-fault g t c =
    let s = c.skip_bytes-in-Fixed32 in
    stops_fixed32 _ _ _ (uncounted_slot _) s.result _ (sym c.wire_type.ensures
    ∙ c.in-Fixed32.is) s.ensures.err s.ensures.short

pub skip_payload-returns-in_err-len-in-LengthDelimited-clause-fault : goal.skip_payload-returns-in_err-len-in-LengthDelimited-clause-fault
skip_payload-returns-in_err-len-in-LengthDelimited-clause-fault g t c =
    let r = c.from_residual-in_err-len-in-LengthDelimited in
    let p = err_from_is_err_and r.result r.ensures.1 in
    rw (
      p.1,
      p.2,
      sym c.wire_type.ensures
          ∙ c.in-LengthDelimited.is,
    )
    (no_bytes (uncounted_slot _) (c.in_err-len-in-LengthDelimited).ensures.fault)

pub skip_payload-returns-in_ok-len-in-LengthDelimited-clause-ok : goal.skip_payload-returns-in_ok-len-in-LengthDelimited-clause-ok
skip_payload-returns-in_ok-len-in-LengthDelimited-clause-ok g t c =
    let length = c.in_ok-len-in-LengthDelimited in
    skips_bytes _ _ _ (uncounted_slot _) _ _ _ _ (uncounted_bytes _) (sym c.wire_type.ensures
    ∙ c.in-LengthDelimited.is) length.ensures.ok length.ensures.there c.advance.ensures.value

pub skip_payload-returns-then-depth-eq0-clause-fault : goal.skip_payload-returns-then-depth-eq0-clause-fault
skip_payload-returns-then-depth-eq0-clause-fault g t c =
    rw (sym c.wire_type.ensures
    ∙ c.in-StartGroup.is) (no_level (uncounted_slot _) c.if-depth-eq0.true)

pub skip_payload-returns-else-depth-eq0-clause-ok : goal.skip_payload-returns-else-depth-eq0-clause-ok
skip_payload-returns-else-depth-eq0-clause-ok g t c =
    skips_group _ _ _ (uncounted_slot c.args.depth) c.skip_group.result _ _ (sym c.wire_type.ensures
    ∙ c.in-StartGroup.is) (omega arith)
    (rw c.field_number.ensures.number at c.skip_group.ensures.ok)

pub skip_payload-returns-else-depth-eq0-clause-fault : goal.skip_payload-returns-else-depth-eq0-clause-fault
skip_payload-returns-else-depth-eq0-clause-fault g t c =
    stops_group _ _ _ (uncounted_slot c.args.depth) c.skip_group.result _ (sym c.wire_type.ensures
    ∙ c.in-StartGroup.is) (omega arith)
    (rw c.field_number.ensures.number at c.skip_group.ensures.fault)

pub skip_payload-returns-in-EndGroup-clause-fault : goal.skip_payload-returns-in-EndGroup-clause-fault
skip_payload-returns-in-EndGroup-clause-fault g t c =
    rw (sym c.wire_type.ensures ∙ c.in-EndGroup.is) (end_outside (uncounted_slot _))

-- ---- the body of a group

pub skip_group-loop-tag-init : goal.skip_group-loop-tag-init
skip_group-loop-tag-init g t c = record { so_far = (none, takes_none _ _); kept = refl }

pub skip_group-returns-in_err-tag-clause-fault : goal.skip_group-returns-in_err-tag-clause-fault
skip_group-returns-in_err-tag-clause-fault g t c =
    let p = err_from_is_err_and c.from_residual.result c.from_residual.ensures.1 in
    let so_far = c.loop-tag.invariant.so_far in
    rw (p.1, p.2) (past so_far.0 _ so_far.1 tt (no_tag c.in_err-tag.ensures.fault))

pub skip_group-returns-clause-ok : goal.skip_group-returns-clause-ok
skip_group-returns-clause-ok g t c =
    let so_far = c.loop-tag.invariant.so_far in (
      so_far.0,
      takes_until _ _ so_far.0 _ _ _ so_far.1
          (at_none _ _ c.in_default.not-Some c.in_ok-tag.ensures.end),
    )

pub skip_group-loop-tag-preserved : goal.skip_group-loop-tag-preserved
skip_group-loop-tag-preserved g t c =
    let so_far = c.loop-tag.invariant.so_far in
    let p = c.in_ok-skip_payload.ensures.ok in
    record {
      so_far = (
        push so_far.0 _ p.0,
        takes_field _ so_far.0 _ _ p.0 _ _ _ _ so_far.1
            (rw c.in-Some.is at c.in_ok-tag.ensures.record) p.1,
      );
      kept = c.in_ok-skip_payload.ensures.kept ∙ c.in_ok-tag.ensures.kept
          ∙ c.loop-tag.invariant.kept;
    }

pub skip_group-returns-in_err-skip_payload-clause-fault : goal.skip_group-returns-in_err-skip_payload-clause-fault
skip_group-returns-in_err-skip_payload-clause-fault g t c =
    let r = c.from_residual-in_err-skip_payload in
    let p = err_from_is_err_and r.result r.ensures.1 in
    let so_far = c.loop-tag.invariant.so_far in
    rw (p.1, p.2) (past so_far.0 _ so_far.1 tt
    (bad_payload _ _ _ (rw c.in-Some.is at c.in_ok-tag.ensures.record)
    (rw c.in-Some.is at c.in_ok-tag.ensures.inside) c.in_err-skip_payload.ensures.fault))
