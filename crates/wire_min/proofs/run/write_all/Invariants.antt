-- What is gone from `rest` was written, and no call failed.
use Rattle.std.proofs.Common.{◌≡◌, ℕ, List, ◌++◌, length}
use Rattle.std.specs.Io.KnownBytes.{Appends}
use Rattle.wire_min.specs.Counted.{device_of, failures_of}
use Rattle.wire_min.proofs.run.write_all.Given as goal

abbrev pub invariant-loop-rest : goal.invariant-loop-rest
invariant-loop-rest g l = record {
  written : (done : List ℕ) × (l.bytes ≡ done ++ l.rest)
      × Appends (g.W.Write.contents (device_of l.initial.writer))
      (g.W.Write.contents (device_of l.writer)) done;
  failures : failures_of l.writer ≡ failures_of l.initial.writer;
}

abbrev pub decreases-loop-rest : goal.decreases-loop-rest
decreases-loop-rest g l = length l.rest
