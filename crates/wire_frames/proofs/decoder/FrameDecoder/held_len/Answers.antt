use Rattle.std.proofs.Common.{subst}
use Rattle.wire_frames.specs.Frames.{IsUnfinished}
use Rattle.wire_frames.specs.Stream.{Stream}
use Rattle.wire_frames.proofs.decoder.FrameDecoder.held_len.Goals as goal

pub returns-clause-begun : goal.returns-clause-begun
returns-clause-begun c =
    subst (λ (s : Stream). IsUnfinished s.framing s.limit s.held) c.self.view_is c.self.invariant
