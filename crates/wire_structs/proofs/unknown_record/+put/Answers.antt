use Rattle.std.proofs.Common.{sym, ◌∙◌, ◌+◌, ◌*◌, ◌<◌, ◌≡◌, ℕ, List, length, arith, refl, ap, subst}
use Rattle.std.proofs.lemmas.Result.{err_from_is_err_and, on_ok_weaker}
use Rattle.wire_base.proofs.FieldLaws.{one_payload_lemma, rest_below}
use Rattle.wire_base.proofs.ReadLaws.{Reads-shorter}
use Rattle.wire_base.proofs.Results.{at_none}
use Rattle.wire_base.specs.Field.{Payload, Fields, group}
use Rattle.wire_base.specs.Read.{Reads}
use Rattle.wire_base.specs.Spells.{IsPayload}
use Rattle.wire_base.specs.TagView.{tag_number, tag_type}
use Rattle.wire_base.specs.Text.{payload_text}
use Rattle.wire_codec.specs.Writes.{Writes}
use Rattle.wire_structs.proofs.UnknownSizes.{scalar_put}
use Rattle.wire_structs.specs.Payloads.{scalar_payload}
use Rattle.wire_structs.proofs.UnknownReads.{opened, closed, next_record, body_parts, group_payload}
use Rattle.wire_structs.proofs.UnknownReads.{stands_beside}
use Rattle.wire_structs.proofs.unknown_record.+put.Goals as goal

-- ---- the body of a group

pub put_group-loop-tag-init : goal.put_group-loop-tag-init
put_group-loop-tag-init g t c = record {
  left = λ fs rest h.
      (fs, opened _ _ fs _ rest h, c.piece_by_piece.ensures.start _ _);
  shorter = omega arith;
}

pub put_group-put_unknown_record-requires : goal.put_group-put_unknown_record-requires
put_group-put_unknown_record-requires g t c =
    let (fs, rest, h) = c.requires.there in
    let tag = rw c.in-Some.is at c.next_in_group.ensures.record in
    let inside = rw c.in-Some.is at c.next_in_group.ensures.inside in
    let so_far = c.loop-tag.invariant.left fs rest h in
    let one = next_record _ _ _ so_far.0 _ _ rest so_far.1 tag inside in
    let falls : 2 * length c.next_in_group.new.buf.now + 1 < t =
    omega (arith, rest_below _ _ _ _ tag, c.loop-tag.invariant.shorter, c.decreases) in
    λ κs lives. (falls, (lives, (one.payload, one.next, one.read)))

pub put_group-loop-tag-smaller : goal.put_group-loop-tag-smaller
put_group-loop-tag-smaller g t c =
    let (fs, rest, h) = c.requires.there in
    let tag = rw c.in-Some.is at c.next_in_group.ensures.record in
    let inside = rw c.in-Some.is at c.next_in_group.ensures.inside in
    let so_far = c.loop-tag.invariant.left fs rest h in
    let one = next_record _ _ _ so_far.0 _ _ rest so_far.1 tag inside in
    let is = c.in_ok-put_unknown_record.ensures.read one.payload one.next one.read in
    let smaller : length c.put_unknown_record.new.buf.now < length c.loop-tag.buf.now =
    omega (arith, ap length is, Reads-shorter _ _ _ one.read, rest_below _ _ _ _ tag) in
    smaller

pub put_group-loop-tag-preserved : goal.put_group-loop-tag-preserved
put_group-loop-tag-preserved g t c =
    let tag = rw c.in-Some.is at c.next_in_group.ensures.record in
    let inside = rw c.in-Some.is at c.next_in_group.ensures.inside in
    record {
      left = λ fs rest h.
          let so_far = c.loop-tag.invariant.left fs rest h in
          let one = next_record _ _ _ so_far.0 _ _ rest so_far.1 tag inside in
          let done = c.in_ok-put_unknown_record.ensures in (
            one.others,
            rw (sym (done.read one.payload one.next one.read)) at one.body,
            c.piece_by_piece.ensures.more _ _ _ _ _ _ _ tt so_far.2
                (ap (λ (fs : Fields). payload_text c.args.number (group fs)) one.is
                ∙ body_parts c.args.number _ one.payload one.others)
                (done.written one.payload one.next one.read),
          );
      shorter =
          let (fs, rest, h) = c.requires.there in
          let so_far = c.loop-tag.invariant.left fs rest h in
          let one = next_record _ _ _ so_far.0 _ _ rest so_far.1 tag inside in
          let is = c.in_ok-put_unknown_record.ensures.read one.payload one.next one.read in
          omega (
            arith,
            ap length is,
            Reads-shorter _ _ _ one.read,
            rest_below _ _ _ _ tag,
            c.loop-tag.invariant.shorter,
          );
    }

pub put_group-returns-in_err-put_unknown_record-clause-written :
    goal.put_group-returns-in_err-put_unknown_record-clause-written
put_group-returns-in_err-put_unknown_record-clause-written g t c = λ fs rest h.
    let p = err_from_is_err_and c.from_residual.result c.from_residual.ensures.1 in
    let tag = rw c.in-Some.is at c.next_in_group.ensures.record in
    let inside = rw c.in-Some.is at c.next_in_group.ensures.inside in
    let so_far = c.loop-tag.invariant.left fs rest h in
    let one = next_record _ _ _ so_far.0 _ _ rest so_far.1 tag inside in
    rw (p.1, p.2) (c.piece_by_piece.ensures.refused _ _ _ _ _ _ _ _ so_far.2
    (ap (λ (fs : Fields). payload_text c.args.number (group fs)) one.is
    ∙ body_parts c.args.number _ one.payload one.others)
    (c.in_err-put_unknown_record.ensures.written one.payload one.next one.read))

pub put_group-returns-clause-written : goal.put_group-returns-clause-written
put_group-returns-clause-written g t c = λ fs rest h.
    let so_far = c.loop-tag.invariant.left fs rest h in
    let end = at_none _ _ c.in_default.not-Some c.next_in_group.ensures.end in
    let none_is = (end so_far.0 rest (closed _ so_far.0 _ rest so_far.1)).0 in
    c.piece_by_piece.ensures.last _ _ _ _ _ _ so_far.2
    (subst (λ (left : Fields). Writes (payload_text c.args.number (group left))
    (g.E.EncodeSink.held c.loop-tag.sink) (g.E.EncodeSink.held c.put_group_end.new.sink)
    c.put_group_end.result) (sym none_is) c.put_group_end.ensures)

pub put_group-returns-clause-read : goal.put_group-returns-clause-read
put_group-returns-clause-read g t c = λ fs rest h.
    let so_far = c.loop-tag.invariant.left fs rest h in
    let end = at_none _ _ c.in_default.not-Some c.next_in_group.ensures.end in
    on_ok_weaker c.put_group_end.result
    (λ done. (end so_far.0 rest (closed _ so_far.0 _ rest so_far.1)).1) c.put_group_end.ensures.ok

-- ---- one record

pub put_unknown_record-returns-in_err-put_group_start-in-StartGroup-clause-written :
    goal.put_unknown_record-returns-in_err-put_group_start-in-StartGroup-clause-written
put_unknown_record-returns-in_err-put_group_start-in-StartGroup-clause-written g t c = λ p rest h.
    let e = err_from_is_err_and c.from_residual.result c.from_residual.ensures.1 in
    let kind = sym c.wire_type.ensures ∙ c.in-StartGroup.is in
    let body = group_payload _ p _ rest (rw kind at h) in
    let pieces = c.piece_by_piece.ensures in
    rw (e.1, e.2, body.1) (pieces.refused _ _ _ _ _ _ _ _ (pieces.start _ _) refl
    (rw c.field_number.ensures.number at (c.in_err-put_group_start-in-StartGroup).ensures))

pub put_unknown_record-returns-in_default-read_payload :
    goal.put_unknown_record-returns-in_default-read_payload
put_unknown_record-returns-in_default-read_payload g t c = record {
  written = λ p rest h.
      absurd (stands_beside _ _ p _ rest _ h c.in_default-read_payload.ensures.fault);
  read = λ p rest h.
      absurd (stands_beside _ _ p _ rest _ h c.in_default-read_payload.ensures.fault);
}

pub put_unknown_record-returns-in_ok-put_group_start-in-StartGroup-clause-written :
    goal.put_unknown_record-returns-in_ok-put_group_start-in-StartGroup-clause-written
put_unknown_record-returns-in_ok-put_group_start-in-StartGroup-clause-written g t c = λ p rest h.
    let kind = sym c.wire_type.ensures ∙ c.in-StartGroup.is in
    let body = group_payload _ p _ rest (rw kind at h) in
    let pieces = c.piece_by_piece.ensures in
    let started = pieces.more _ _ _ _ _ _ _ tt (pieces.start _ _) refl
    (rw c.field_number.ensures.number at (c.in_ok-put_group_start-in-StartGroup).ensures) in
    let done = rw c.field_number-in-StartGroup.ensures.number at c.put_group.ensures.written in
    rw body.1 (pieces.last _ _ _ _ _ _ started (done body.0 rest (rw (kind, body.1) at h)))

pub put_unknown_record-returns-in_ok-put_group_start-in-StartGroup-clause-read :
    goal.put_unknown_record-returns-in_ok-put_group_start-in-StartGroup-clause-read
put_unknown_record-returns-in_ok-put_group_start-in-StartGroup-clause-read g t c = λ p rest h.
    let kind = sym c.wire_type.ensures ∙ c.in-StartGroup.is in
    let body = group_payload _ p _ rest (rw kind at h) in
    let done = rw c.field_number-in-StartGroup.ensures.number at c.put_group.ensures.read in
    done body.0 rest (rw (kind, body.1) at h)

pub put_unknown_record-returns-in-Ok : goal.put_unknown_record-returns-in-Ok
put_unknown_record-returns-in-Ok g t c =
    let held = c.in-Ok.payload in
    let one : (p : Payload) (rest : List ℕ)
    → Reads c.args.buf.now.now (IsPayload (tag_number c.args.tag) (tag_type c.args.tag) p) rest
    → (p ≡ scalar_payload held) × (rest ≡ c.read_payload.new.buf.now) = λ p rest h.
    one_payload_lemma _ _ p (scalar_payload held) _ rest _ h c.in-Ok.ensures.ok in
    record {
      written = λ p rest h. rw (one p rest h).0
          (scalar_put _ held _ _ _ (rw c.field_number-in_default.ensures.number at
          c.put_record.ensures));
      read = λ p rest h. on_ok_weaker c.put_record.result (λ done. sym (one p rest h).1)
          c.put_record.ensures.ok;
    }
