use Rattle.std.proofs.Common.{inl, inr}
use Rattle.wire_frames.proofs.Extents.{frame_stands}
use Rattle.wire_frames.proofs.decoder.FrameDecoder.has_next.Goals as goal

pub returns-in-Ok-Some-clause-waits : goal.returns-in-Ok-Some-clause-waits
returns-in-Ok-Some-clause-waits c = λ _.
    let stands = rw c.in-Ok-Some.field-0-is at c.in-Ok-Some.ensures.some in
    inl (_, _, frame_stands _ _ _ _ stands)

pub returns-in-Ok-None-clause-unfinished : goal.returns-in-Ok-None-clause-unfinished
returns-in-Ok-None-clause-unfinished c = λ _.
    rw c.in-Ok-None.field-0-is at c.in-Ok-None.ensures.none

pub returns-in-Err-clause-waits : goal.returns-in-Err-clause-waits
returns-in-Err-clause-waits c = λ _. inr (_, c.in-Err.ensures.fault)
