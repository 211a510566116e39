use Rattle.std.specs.List.{concat}
use Rattle.wire_callers.proofs.Chunks.{IsFed}
use Rattle.wire_callers.proofs.frames.frames_of.Given as goal

abbrev pub invariant-loop-chunk : goal.invariant-loop-chunk
invariant-loop-chunk l =
    IsFed l.fn.framing l.fn.limit (concat l.fn.chunks.items) l.chunk-iterator.rest.items l.decoder
    l.frames.items
