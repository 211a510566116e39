use Rattle.std.proofs.Common.{sym, subst}
use Rattle.std.proofs.lemmas.Result.{err_from_is_err_and}
use Rattle.wire_frames.specs.Frames.{IsUnfinished}
use Rattle.wire_frames.specs.Stream.{unread}
use Rattle.wire_log.specs.declared.entry.LogReader.{LogReader}
use Rattle.wire_log.proofs.Keeping.{nothing_kept, entry_kept, entry_dropped, keeping_wants}
use Rattle.wire_log.proofs.kept.put_kept.Goals as goal

pub loop-entry-init : goal.loop-entry-init
loop-entry-init c = nothing_kept _ _ _

pub returns-in_err-put_text-in-Ok-Some-clause-stop :
    goal.returns-in_err-put_text-in-Ok-Some-clause-stop
returns-in_err-put_text-in-Ok-Some-clause-stop c =
    let p = err_from_is_err_and c.from_residual.result c.from_residual.ensures.1 in
    let taken = rw c.in-Ok-Some.field-0-is at c.in-Ok-Some.ensures.entry in
    rw (p.1, p.2) (keeping_wants _ _ _ _ _ _ _ _ _ _ c.loop-entry.invariant taken
    c.in_err-put_text-in-Ok-Some.ensures.cause c.in_err-put_text-in-Ok-Some.ensures.err)

pub loop-entry-preserved-in_ok-put_text-in-Ok-Some :
    goal.loop-entry-preserved-in_ok-put_text-in-Ok-Some
loop-entry-preserved-in_ok-put_text-in-Ok-Some c =
    let taken = rw c.in-Ok-Some.field-0-is at c.in-Ok-Some.ensures.entry in
    let put = rw c.as_slice.ensures at c.in_ok-put_text-in-Ok-Some.ensures.ok in
    entry_kept _ _ _ _ _ _ _ _ _ c.loop-entry.invariant taken
    c.in-Ok-Some.ensures.fed put

pub loop-entry-preserved-in_ok-put_text-in-Ok-Some-2 :
    goal.loop-entry-preserved-in_ok-put_text-in-Ok-Some-2
loop-entry-preserved-in_ok-put_text-in-Ok-Some-2 c =
    let taken = rw c.in-Ok-Some.field-0-is at c.in-Ok-Some.ensures.entry in
    let put = rw c.as_slice.ensures at c.in_ok-put_text-in-Ok-Some.ensures.ok in
    entry_kept _ _ _ _ _ _ _ _ _ c.loop-entry.invariant taken
    c.in-Ok-Some.ensures.fed put

pub returns-in-Ok-None-clause-unfinished : goal.returns-in-Ok-None-clause-unfinished
returns-in-Ok-None-clause-unfinished c =
    let was = c.args.log.now.decoder in
    let none = rw c.in-Ok-None.field-0-is at c.in-Ok-None.ensures.none in
    let same = rw c.in-Ok-None.field-0-is at c.in-Ok-None.ensures.unmoved in
    let so_far = c.loop-entry.invariant in
    let here = rw (so_far.framing, so_far.limit) at none in
    subst (λ (l : LogReader). IsUnfinished was.framing was.limit (unread l.decoder)) (sym same) here

pub loop-entry-smaller : goal.loop-entry-smaller
loop-entry-smaller c =
    (c.in-Err-Records.ensures.left_out _ c.in-Err-Records.field-0-is).shorter

pub loop-entry-preserved : goal.loop-entry-preserved
loop-entry-preserved c =
    let left_out = c.in-Err-Records.ensures.left_out _ c.in-Err-Records.field-0-is in
    entry_dropped _ _ _ _ _ _ _ _ _ c.loop-entry.invariant left_out
    c.in-Err-Records.ensures.fed c.in_ok-tell-in-Err-Records.ensures.ok
