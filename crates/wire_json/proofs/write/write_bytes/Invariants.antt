-- With the text of what is left, all is written.
use Rattle.std.proofs.Common.{◌≡◌, ◌-◌, ◌≤◌, ◌++◌, length, drop}
use Rattle.wire_json.specs.Compact.{Extends}
use Rattle.wire_json.specs.Written.{written_bytes}
use Rattle.wire_json.proofs.write.write_bytes.Given as goal

abbrev pub invariant-loop-byte : goal.invariant-loop-byte
invariant-loop-byte l = record {
  all : l.out.items ++ written_bytes (drop l.place l.bytes)
      ≡ l.initial.out.items ++ written_bytes l.bytes;
  front : Extends l.initial.out.items l.out.items;
  within : l.place ≤ length l.bytes;
}

abbrev pub decreases-loop-byte : goal.decreases-loop-byte
decreases-loop-byte l = length l.bytes - l.place
