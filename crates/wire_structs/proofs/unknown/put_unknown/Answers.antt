use Rattle.std.proofs.Common.{sym, ap, ◌∙◌, ◌<◌, length, arith}
use Rattle.std.proofs.lemmas.Result.{err_from_is_err_and}
use Rattle.wire_base.proofs.FieldLaws.{Reads-all, rest_below}
use Rattle.wire_base.proofs.ReadLaws.{Reads-shorter}
use Rattle.wire_base.specs.Field.{Fields}
use Rattle.wire_base.specs.Text.{text_of}
use Rattle.wire_structs.proofs.UnknownKept.{next_record, none_left, text_first}
use Rattle.wire_structs.specs.Unknown.{unowned}
use Rattle.wire_structs.proofs.unknown.put_unknown.Goals as goal

pub loop-tag-init : goal.loop-tag-init
loop-tag-init g c = λ fs h.
    (fs, Reads-all fs _ h.spelled, h.levels, c.piece_by_piece.ensures.start _ _)

pub put_or_skip-requires : goal.put_or_skip-requires
put_or_skip-requires g c =
    let (fs, h) = c.requires in
    let so_far = c.loop-tag.invariant fs h in
    let one = next_record _ _ so_far.0 _ _ so_far.1 so_far.2 c.in-Ok.ensures.ok in
    (one.payload, one.next, one.taken)

pub loop-tag-smaller : goal.loop-tag-smaller
loop-tag-smaller g c =
    let (fs, h) = c.requires in
    let so_far = c.loop-tag.invariant fs h in
    let one = next_record _ _ so_far.0 _ _ so_far.1 so_far.2 c.in-Ok.ensures.ok in
    let is = c.in_ok-put_or_skip.ensures.read one.payload one.next one.taken in
    let smaller : length c.put_or_skip.new.buf.now < length c.loop-tag.buf.now =
    omega (
      arith,
      ap length is,
      Reads-shorter _ _ _ one.taken.read,
      rest_below _ _ _ _ c.in-Ok.ensures.ok,
    ) in
    smaller

pub loop-tag-preserved : goal.loop-tag-preserved
loop-tag-preserved g c = λ fs h.
    let so_far = c.loop-tag.invariant fs h in
    let one = next_record _ _ so_far.0 _ _ so_far.1 so_far.2 c.in-Ok.ensures.ok in
    let done = c.in_ok-put_or_skip.ensures in (
      one.others,
      rw (sym (done.read one.payload one.next one.taken)) at one.read,
      one.levels,
      c.piece_by_piece.ensures.more _ _ _ _ _ _ _ tt so_far.3
          (ap (λ (fs : Fields). text_of (unowned g.M.FieldNumbers.owns fs)) one.is
          ∙ text_first g.M.FieldNumbers.owns _ one.payload one.others)
          (done.written one.payload one.next one.taken),
    )

pub returns-in_err-put_or_skip : goal.returns-in_err-put_or_skip
returns-in_err-put_or_skip g c = λ fs h.
    let p = err_from_is_err_and c.from_residual.result c.from_residual.ensures.1 in
    let so_far = c.loop-tag.invariant fs h in
    let one = next_record _ _ so_far.0 _ _ so_far.1 so_far.2 c.in-Ok.ensures.ok in
    rw (p.1, p.2) (c.piece_by_piece.ensures.refused _ _ _ _ _ _ _ _ so_far.3
    (ap (λ (fs : Fields). text_of (unowned g.M.FieldNumbers.owns fs)) one.is
    ∙ text_first g.M.FieldNumbers.owns _ one.payload one.others)
    (c.in_err-put_or_skip.ensures.written one.payload one.next one.taken))

pub returns : goal.returns
returns g c = λ fs h.
    let so_far = c.loop-tag.invariant fs h in
    let none_is = none_left so_far.0 _ _ so_far.1 c.in_default.ensures.fault in
    c.piece_by_piece.ensures.done _ _ _
    (rw (ap (λ (fs : Fields). text_of (unowned g.M.FieldNumbers.owns fs)) none_is) at so_far.3)
