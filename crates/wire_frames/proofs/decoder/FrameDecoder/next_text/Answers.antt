use Rattle.std.proofs.Common.{refl, sym, take-append-drop}
use Rattle.std.proofs.lemmas.Result.{err_from_is_err_and}
use Rattle.wire_frames.specs.Frames.{fault, memory}
use Rattle.wire_frames.proofs.Extents.{frame_stands, text_stands}
use Rattle.wire_frames.proofs.decoder.FrameDecoder.next_text.Goals as goal

pub returns-in_err-extent-clause-refused : goal.returns-in_err-extent-clause-refused
returns-in_err-extent-clause-refused c =
    let p = err_from_is_err_and c.from_residual.result c.from_residual.ensures.1 in
    rw (p.1, p.2) (fault c.in_err-extent.ensures.fault)

pub returns-in_err-take-in-Some-clause-refused : goal.returns-in_err-take-in-Some-clause-refused
returns-in_err-take-in-Some-clause-refused c =
    let p = err_from_is_err_and c.from_residual-in_err-take-in-Some.result
    c.from_residual-in_err-take-in-Some.ensures.1 in
    let stands = rw c.in-Some.is at c.in_ok-extent.ensures.some in
    rw (p.1, p.2) (memory (_, _, frame_stands _ _ _ _ stands) refl)

pub returns-in_ok-take-in-Some-clause-frame : goal.returns-in_ok-take-in-Some-clause-frame
returns-in_ok-take-in-Some-clause-frame c =
    let stands = rw c.in-Some.is at c.in_ok-extent.ensures.some in
    rw (c.in_ok-take-in-Some.ensures.text) (text_stands _ _ _ _ stands)

pub returns-in_ok-take-in-Some-clause-parts : goal.returns-in_ok-take-in-Some-clause-parts
returns-in_ok-take-in-Some-clause-parts c =
    rw (c.in_ok-take-in-Some.ensures.text, c.in_ok-take-in-Some.ensures.rest)
    (sym (take-append-drop _ _))

pub returns-in-None-clause-none : goal.returns-in-None-clause-none
returns-in-None-clause-none c = rw c.in-None.is at c.in_ok-extent.ensures.none
