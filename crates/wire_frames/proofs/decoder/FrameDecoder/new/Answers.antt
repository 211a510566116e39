use Rattle.wire_frames.specs.Frames.{in_prefix}
use Rattle.wire_frames.proofs.Prefixes.{nothing_is_begun}
use Rattle.wire_frames.proofs.decoder.FrameDecoder.new.Goals as goal

pub invariant_of-result : goal.invariant_of-result
invariant_of-result c = rw c.new.ensures.items (in_prefix (nothing_is_begun c.args.framing))
