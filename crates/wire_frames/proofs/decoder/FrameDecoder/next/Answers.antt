use Rattle.std.proofs.lemmas.Result.{err_from_is_err_and}
use Rattle.wire_frames.proofs.Extents.{whole_stands}
use Rattle.wire_frames.proofs.decoder.FrameDecoder.next.Goals as goal

pub returns-in_err-whole-clause-refused : goal.returns-in_err-whole-clause-refused
returns-in_err-whole-clause-refused c =
    let p = err_from_is_err_and c.from_residual.result c.from_residual.ensures.1 in
    rw (p.1, p.2) (c.in_err-whole.ensures.refused)

pub returns-in-Some-clause-frame : goal.returns-in-Some-clause-frame
returns-in-Some-clause-frame c =
    let frame = rw c.in-Some.is at c.in_ok-whole.ensures.frame in
    let parts = rw c.in-Some.is at c.in_ok-whole.ensures.parts in
    rw (c.into_frame.ensures) (whole_stands _ _ _ _ _ frame parts)

pub returns-in-None-clause-none : goal.returns-in-None-clause-none
returns-in-None-clause-none c = rw c.in-None.is at c.in_ok-whole.ensures.none
