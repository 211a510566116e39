use Rattle.std.proofs.Common.{◌≡◌, take}
use Rattle.std.specs.List.{concat}
use Rattle.wire_base.proofs.rope.Rope.to_contiguous_bytes.Given as goal

abbrev pub invariant-loop-segment : goal.invariant-loop-segment
invariant-loop-segment l =
    l.joined.items ≡ concat (take l.segment-index l.self-inside.finished.items)
