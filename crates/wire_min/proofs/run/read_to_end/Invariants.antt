-- What was read so far is in the vector, a byte at least for each turn, and no call failed.
use Rattle.std.proofs.Common.{◌≡◌, ◌≤◌, length}
use Rattle.std.specs.Io.KnownBytes.{Consumes}
use Rattle.wire_min.specs.Counted.{device_of, failures_of}
use Rattle.wire_min.proofs.run.read_to_end.Given as goal

abbrev pub invariant-loop : goal.invariant-loop
invariant-loop g l = record {
  bytes : Consumes (g.R.Read.remaining (device_of l.initial.reader))
      (g.R.Read.remaining (device_of l.reader)) l.bytes.items;
  turns : l.counter ≤ length l.bytes.items;
  failures : failures_of l.reader ≡ failures_of l.initial.reader;
}
