use Rattle.std.proofs.Common.{ℕ, ◌<◌, List, length, sym, ap, ◌∙◌, inl, arith}
use Rattle.std.proofs.lemmas.Result.{err_from_is_err_and}
use Rattle.wire_base.specs.Charge.{charge, payload_charge}
use Rattle.wire_base.specs.Ending.{by_tag}
use Rattle.wire_base.specs.Fault.{no_slot, no_level}
use Rattle.wire_base.specs.Limits.{Limits, NoCountGrew, inner, left_after}
use Rattle.wire_base.specs.Read.{Reads}
use Rattle.wire_base.specs.Tag.{IsTagSpelling}
use Rattle.wire_base.specs.UnknownFields.{payload_of}
use Rattle.wire_base.specs.declared.tag.WireType.{WireType}
use Rattle.wire_base.proofs.Decoded.{refused_in_group, refused_tag, refused_payload, refused_push}
use Rattle.wire_base.proofs.FieldLaws.{payload_numbered, rest_below}
use Rattle.wire_base.proofs.LimitsLaws.{NoCountGrew-again, NoCountGrew-left_after}
use Rattle.wire_base.proofs.Payloads.{takes_group, takes_until}
use Rattle.wire_base.proofs.ReadLaws.{Reads-shorter}
use Rattle.wire_base.proofs.Results.{at_ok, at_none}
use Rattle.wire_base.proofs.Takes.{takes_field, left_after-push}
use Rattle.wire_base.proofs.unknown_fields.decode.+decode.Goals as goal

-- ---- one payload

pub decode_value-returns-in_err-register_unknown_field-in-StartGroup-clause-fault : goal.decode_value-returns-in_err-register_unknown_field-in-StartGroup-clause-fault
decode_value-returns-in_err-register_unknown_field-in-StartGroup-clause-fault g t c =
    let p = err_from_is_err_and c.from_residual.result c.from_residual.ensures.1 in
    let refused = (c.in_err-register_unknown_field-in-StartGroup).ensures in
    rw (p.1, p.2, refused.err) (inl (no_slot refused.none_left))

pub decode_value-returns-in_err-descend-in-StartGroup-clause-fault : goal.decode_value-returns-in_err-descend-in-StartGroup-clause-fault
decode_value-returns-in_err-descend-in-StartGroup-clause-fault g t c =
    let r = c.from_residual-in_err-descend-in-StartGroup in
    let p = err_from_is_err_and r.result r.ensures.1 in
    let refused = (c.in_err-descend-in-StartGroup).ensures in
    let level = rw (c.in_ok-register_unknown_field-in-StartGroup).ensures.ok at refused.none_left in
    rw (
      p.1,
      p.2,
      refused.err,
      sym c.wire_type.ensures
          ∙ c.in-StartGroup.is,
    ) (inl (no_level (c.in_ok-register_unknown_field-in-StartGroup).ensures.taken level))

pub decode_value-returns-in_err-fields-in-StartGroup-clause-fault : goal.decode_value-returns-in_err-fields-in-StartGroup-clause-fault
decode_value-returns-in_err-fields-in-StartGroup-clause-fault g t c =
    let r = c.from_residual-in_err-fields-in-StartGroup in
    let p = err_from_is_err_and r.result r.ensures.1 in
    let slot = (c.in_ok-register_unknown_field-in-StartGroup).ensures in
    let level = (c.in_ok-descend-in-StartGroup).ensures in
    let taken = rw slot.ok at level.taken in
    rw (p.1, p.2, sym c.wire_type.ensures ∙ c.in-StartGroup.is)
    (refused_in_group _ _ _ _ _ _ slot.taken taken (level.ok
    ∙ ap inner slot.ok) c.field_number.ensures.number
    (c.in_err-fields-in-StartGroup).ensures.fault)

pub decode_value-returns-in_ok-fields-in-StartGroup-clause-ok : goal.decode_value-returns-in_ok-fields-in-StartGroup-clause-ok
decode_value-returns-in_ok-fields-in-StartGroup-clause-ok g t c =
    let slot = (c.in_ok-register_unknown_field-in-StartGroup).ensures in
    let level = (c.in_ok-descend-in-StartGroup).ensures in
    let taken = rw slot.ok at level.taken in
    let fields = rw (
      level.ok
          ∙ ap inner slot.ok,
      c.field_number.ensures.number,
    ) at
    (c.in_ok-fields-in-StartGroup).ensures.ok in
    rw (sym c.wire_type.ensures
    ∙ c.in-StartGroup.is) (takes_group _ _ slot.taken _ _ _ taken fields)

pub decode_field-returns-clause-in_range : goal.decode_field-returns-clause-in_range
decode_field-returns-clause-in_range g t c =
    (c.widths_fit.ensures, payload_numbered _ _ _ c.in_ok-value.ensures.ok.read.spelled.spelled)

-- ---- the body of a group

-- what follows a tag and a text behind it is shorter than what the tag stands in
behind_record : (n : ℕ) (w : WireType) (IsText : List ℕ → Type 0) (old mid new : List ℕ)
    → Reads old (IsTagSpelling n w) mid → Reads mid IsText new → length new < length old
behind_record n w IsText old mid new tag read =
    omega (arith, rest_below n w old mid tag, Reads-shorter IsText mid new read)

pub decode_group-loop-fields-smaller : goal.decode_group-loop-fields-smaller
decode_group-loop-fields-smaller g t c =
    behind_record _ _ _ _ _ _ (rw c.in-Some.is at c.in_ok-tag.ensures.record)
    c.in_ok-field.ensures.ok.read

pub decode_group-returns-in_err-tag-clause-fault : goal.decode_group-returns-in_err-tag-clause-fault
decode_group-returns-in_err-tag-clause-fault g t c =
    let p = err_from_is_err_and c.from_residual.result c.from_residual.ensures.1 in
    rw (p.1, p.2)
    (refused_tag _
    (by_tag c.args.number) _ _ _ c.loop-fields.invariant.so_far _ tt c.in_err-tag.ensures.fault)

pub decode_group-returns-in_err-field-clause-fault : goal.decode_group-returns-in_err-field-clause-fault
decode_group-returns-in_err-field-clause-fault g t c =
    let p = err_from_is_err_and c.from_residual-in_err-field.result
    c.from_residual-in_err-field.ensures.1 in
    let loop = c.loop-fields.invariant in
    let tag = c.in_ok-tag.ensures in
    rw (p.1, p.2)
    (refused_payload _ (by_tag c.args.number) _ _ _ loop.so_far _ _ _ _ _ tt
    (rw c.in-Some.is at tag.record)
    (rw c.in-Some.is at tag.inside) loop.context c.in_err-field.ensures.fault)

pub decode_group-returns-then-is_err-clause-fault : goal.decode_group-returns-then-is_err-clause-fault
decode_group-returns-then-is_err-clause-fault g t c =
    refused_push _ (by_tag c.args.number) _ _ _ c.loop-fields.invariant.so_far _ _ _ _ _ _
    (rw c.in-Some.is at c.in_ok-tag.ensures.record) c.loop-fields.invariant.context
    c.in_ok-field.ensures.ok

pub decode_group-returns-clause-ok : goal.decode_group-returns-clause-ok
decode_group-returns-clause-ok g t c =
    takes_until _ _ _ _ _ _ c.loop-fields.invariant.so_far
    (at_none _ _ c.in_default.not-Some c.in_ok-tag.ensures.end)

pub decode_group-loop-fields-preserved : goal.decode_group-loop-fields-preserved
decode_group-loop-fields-preserved g t c =
    let loop = c.loop-fields.invariant in
    let read = c.in_ok-field.ensures in
    let pushed = at_ok c.push.result _ (sym c.is_err.ensures.value
    ∙ c.if-is_err.false) c.push.ensures.ok in
    rw (pushed, read.number) (record {
      so_far = takes_field _ _ _ _ _ _ _ _ _ loop.so_far
          (rw c.in-Some.is at c.in_ok-tag.ensures.record) (rw loop.context at read.ok);
      context = read.charged
          ∙ ap (λ (l : Limits). left_after l
          (payload_charge (payload_of c.in_ok-field.field.value))) loop.context
          ∙ left_after-push _ c.loop-fields.fields _ _;
      kept = read.kept ∙ c.in_ok-tag.ensures.kept ∙ loop.kept;
    })

pub decode_field-returns-clause-number : goal.decode_field-returns-clause-number
decode_field-returns-clause-number g t c = c.field_number.ensures.number

pub decode_field-returns-clause-ok : goal.decode_field-returns-clause-ok
decode_field-returns-clause-ok g t c = c.in_ok-value.ensures.ok

pub decode_field-returns-clause-charged : goal.decode_field-returns-clause-charged
decode_field-returns-clause-charged g t c = c.in_ok-value.ensures.charged

pub decode_field-returns-clause-fault : goal.decode_field-returns-clause-fault
decode_field-returns-clause-fault g t c = tt

pub decode_field-returns-clause-counts : goal.decode_field-returns-clause-counts
decode_field-returns-clause-counts g t c = tt

pub decode_field-returns-clause-kept : goal.decode_field-returns-clause-kept
decode_field-returns-clause-kept g t c = c.in_ok-value.ensures.kept

pub decode_value-returns-in_default : goal.decode_value-returns-in_default
decode_value-returns-in_default g t c = c.decode_flat.ensures

pub decode_group-returns-in_err-tag-clause-counts : goal.decode_group-returns-in_err-tag-clause-counts
decode_group-returns-in_err-tag-clause-counts g t c =
    let p = err_from_is_err_and c.from_residual.result c.from_residual.ensures.1 in
    rw (p.1, c.loop-fields.invariant.context)
    (NoCountGrew-left_after _ (charge c.loop-fields.fields))

pub decode_group-returns-in_err-field-clause-counts : goal.decode_group-returns-in_err-field-clause-counts
decode_group-returns-in_err-field-clause-counts g t c =
    let p = err_from_is_err_and c.from_residual-in_err-field.result
    c.from_residual-in_err-field.ensures.1 in
    let begun : NoCountGrew c.args.context.now c.loop-fields.context =
    rw c.loop-fields.invariant.context (NoCountGrew-left_after _ (charge c.loop-fields.fields)) in
    rw p.1 (NoCountGrew-again _ _ _ begun c.in_err-field.ensures.counts)

pub decode_group-returns-then-is_err-clause-counts : goal.decode_group-returns-then-is_err-clause-counts
decode_group-returns-then-is_err-clause-counts g t c =
    let begun : NoCountGrew c.args.context.now c.loop-fields.context =
    rw c.loop-fields.invariant.context (NoCountGrew-left_after _ (charge c.loop-fields.fields)) in
    rw c.in_ok-field.ensures.charged (NoCountGrew-again _ _ _ begun
    (NoCountGrew-left_after _ (payload_charge (payload_of c.in_ok-field.field.value))))
