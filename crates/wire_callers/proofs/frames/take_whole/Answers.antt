use Rattle.std.proofs.Common.{subst, sym}
use Rattle.std.proofs.lemmas.Result.{err_from_is_err_and}
use Rattle.wire_base.proofs.Results.{at_none}
use Rattle.wire_frames.specs.Frames.{IsUnfinished, next}
use Rattle.wire_frames.specs.Stream.{Stream, unread}
use Rattle.wire_callers.proofs.Chunks.{not_truncated}
use Rattle.wire_callers.proofs.frames.take_whole.Goals as goal

pub returns-in_err-frame-clause-err : goal.returns-in_err-frame-clause-err
returns-in_err-frame-clause-err c =
    let p = err_from_is_err_and c.from_residual.result c.from_residual.ensures.1 in
    let so_far = c.loop-frame.invariant in
    let refused = rw (so_far.framing, so_far.limit) at c.in_err-frame.ensures.refused in
    rw (p.1, p.2) (λ other. record {
      frames = so_far.more;
      rest = unread c.loop-frame.decoder;
      read = so_far.read;
      refused = next refused;
    })

pub returns-clause-unfinished : goal.returns-clause-unfinished
returns-clause-unfinished c =
    let none = at_none _ _ c.in_default.not-Some c.in_ok-frame.ensures.none in
    let same = at_none _ _ c.in_default.not-Some c.in_ok-frame.ensures.unmoved in
    subst (λ (s : Stream). IsUnfinished s.framing s.limit (unread s)) (sym same) none

pub returns-in_err-frame-clause-whole : goal.returns-in_err-frame-clause-whole
returns-in_err-frame-clause-whole c =
    let p = err_from_is_err_and c.from_residual.result c.from_residual.ensures.1 in
    rw (p.1, p.2) (not_truncated _ _ _ _ c.in_err-frame.ensures.refused)
