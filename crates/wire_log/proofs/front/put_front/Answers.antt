use Rattle.std.proofs.Common.{refl, subst, sym}
use Rattle.std.proofs.lemmas.Result.{err_from_is_err_and}
use Rattle.wire_frames.specs.Frames.{IsUnfinished}
use Rattle.wire_frames.specs.Stream.{unread}
use Rattle.wire_log.specs.declared.entry.LogReader.{LogReader}
use Rattle.wire_log.specs.Fronts.{IsLongest}
use Rattle.wire_log.proofs.Fronts.{at_none, entry_put, longest, no_entry_unfinished, stops_behind, wants_memory}
use Rattle.wire_log.proofs.front.put_front.Goals as goal

pub returns-in_err-entry-clause-stop : goal.returns-in_err-entry-clause-stop
returns-in_err-entry-clause-stop c =
    let p = err_from_is_err_and c.from_residual.result c.from_residual.ensures.1 in
    let here = c.in_err-entry.ensures in
    rw (p.1, p.2) (stops_behind c.one_frame.ensures _ _ _ _ _ _ c.loop-entry.invariant here.stop
    here.only refl)

pub returns-in_err-put_text-clause-stop : goal.returns-in_err-put_text-clause-stop
returns-in_err-put_text-clause-stop c =
    let p = err_from_is_err_and c.from_residual-in_err-put_text.result
    c.from_residual-in_err-put_text.ensures.1 in
    let taken = rw c.in-Some.is at c.in_ok-entry.ensures.entry in
    rw (p.1, p.2) (wants_memory _ _ _ _ _ _ _ _ c.loop-entry.invariant taken
    c.in_err-put_text.ensures.cause c.in_err-put_text.ensures.err)

pub loop-entry-preserved-in_ok-put_text : goal.loop-entry-preserved-in_ok-put_text
loop-entry-preserved-in_ok-put_text c =
    let taken = rw c.in-Some.is at c.in_ok-entry.ensures.entry in
    let put = rw c.as_slice.ensures at c.in_ok-put_text.ensures.ok in
    entry_put c.frames_add_up.ensures _ _ _ _ _ _ _ c.loop-entry.invariant taken put

pub loop-entry-preserved : goal.loop-entry-preserved
loop-entry-preserved c =
    let taken = rw c.in-Some.is at c.in_ok-entry.ensures.entry in
    let put = rw c.as_slice.ensures at c.in_ok-put_text.ensures.ok in
    entry_put c.frames_add_up.ensures _ _ _ _ _ _ _ c.loop-entry.invariant taken put

pub returns-clause-unfinished : goal.returns-clause-unfinished
returns-clause-unfinished c =
    let none = at_none _ _ c.in_default.not-Some c.in_ok-entry.ensures.none in
    let same = at_none _ _ c.in_default.not-Some c.in_ok-entry.ensures.unmoved in
    let so_far = c.loop-entry.invariant in
    let here = rw (so_far.framing, so_far.limit) at none in
    let was = c.args.log.now.decoder in
    subst (λ (l : LogReader). IsUnfinished was.framing was.limit (unread l.decoder)) (sym same) here

pub returns-clause-longest : goal.returns-clause-longest
returns-clause-longest c =
    let was = c.args.log.now.decoder in
    let none = at_none _ _ c.in_default.not-Some c.in_ok-entry.ensures.none in
    let same = at_none _ _ c.in_default.not-Some c.in_ok-entry.ensures.unmoved in
    let so_far = c.loop-entry.invariant in
    let here = rw (so_far.framing, so_far.limit) at none in
    let ends = no_entry_unfinished c.unfinished_has_no_next.ensures was.framing was.limit
    (unread c.loop-entry.log.decoder) here in
    subst (λ (l : LogReader). IsLongest was.framing was.limit (unread was) (unread l.decoder))
    (sym same)
    (longest c.one_frame.ensures was.framing was.limit (unread was)
    (unread c.loop-entry.log.decoder) so_far.front.entries ends)
