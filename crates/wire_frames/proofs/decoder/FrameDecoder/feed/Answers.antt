use Rattle.std.proofs.Common.{sym, subst}
use Rattle.wire_frames.specs.Frames.{IsUnfinished}
use Rattle.wire_frames.specs.Stream.{Stream, unread}
use Rattle.wire_frames.proofs.decoder.FrameDecoder.feed.Goals as goal

pub invariant_of-self : goal.invariant_of-self
invariant_of-self c =
    let inside = c.self.inside in
    let begun = subst (λ (s : Stream). IsUnfinished s.framing s.limit (unread s))
    (sym c.self.view_is) (c.has_next.ensures.unfinished c.if-has_next.false) in
    rw (c.in-Ok.ensures.items, c.as_slice.ensures) begun

pub invariant_of-self-in-Err : goal.invariant_of-self-in-Err
invariant_of-self-in-Err c = rw (c.in-Err.ensures.items) c.self.invariant

pub returns-in-Ok-clause-taken : goal.returns-in-Ok-clause-taken
returns-in-Ok-clause-taken c = c.has_next.ensures.unfinished c.if-has_next.false

pub returns-in-Err-clause-memory : goal.returns-in-Err-clause-memory
returns-in-Err-clause-memory c = λ _. c.has_next.ensures.unfinished c.if-has_next.false
