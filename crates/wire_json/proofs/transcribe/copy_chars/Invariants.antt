-- Some characters were read so far, and their compact text was written.
use Rattle.std.proofs.Common.{◌≡◌, ℕ, ◌≤◌, ◌-◌, List, ◌++◌, length, drop}
use Rattle.wire_json.specs.Written.{written_bytes}
use Rattle.wire_json.proofs.Chars.{Sofar}
use Rattle.wire_json.proofs.transcribe.copy_chars.Given as goal

abbrev pub invariant-loop-part : goal.invariant-loop-part
invariant-loop-part l = record {
  sofar : (bytes : List ℕ) × Sofar (drop l.at l.text) (drop l.place l.text) bytes
      × (l.out.items ≡ l.initial.out.items ++ written_bytes bytes);
  onward : l.at ≤ l.place;
  within : l.place ≤ length l.text;
}

abbrev pub decreases-loop-part : goal.decreases-loop-part
decreases-loop-part l = length l.text - l.place
