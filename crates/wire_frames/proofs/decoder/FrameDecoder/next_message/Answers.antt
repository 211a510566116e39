use Rattle.std.proofs.lemmas.Result.{err_from_is_err_and}
use Rattle.wire_frames.specs.Messages.{no_frame, no_message}
use Rattle.wire_frames.proofs.decoder.FrameDecoder.next_message.Goals as goal

pub returns-in_err-frame-clause-refused : goal.returns-in_err-frame-clause-refused
returns-in_err-frame-clause-refused g c =
    let p = err_from_is_err_and c.from_residual.result c.from_residual.ensures.1 in
    rw (p.1) (no_frame _ c.in_err-frame.ensures.refused c.in_err-frame.ensures.unchanged p.2)

pub returns-in_err-message-in-Some-clause-refused :
    goal.returns-in_err-message-in-Some-clause-refused
returns-in_err-message-in-Some-clause-refused g c =
    let p = err_from_is_err_and c.from_residual-in_err-message-in-Some.result
    c.from_residual-in_err-message-in-Some.ensures.1 in
    let taken = rw c.in-Some.is at c.in_ok-frame.ensures.frame in
    let rest = rw c.in-Some.is at c.in_ok-frame.ensures.rest in
    rw (p.1, p.2) (no_message c.in-Some.frame taken rest c.in_err-message-in-Some.ensures.err)

pub returns-in-None-clause-none : goal.returns-in-None-clause-none
returns-in-None-clause-none g c = rw c.in-None.is at c.in_ok-frame.ensures.none
