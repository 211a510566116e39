-- Some characters were read so far, and their bytes were put.
use Rattle.std.proofs.Common.{◌≡◌, ℕ, ◌≤◌, ◌-◌, List, ◌++◌, length, drop}
use Rattle.std.specs.Prelude.{string_bytes}
use Rattle.wire_json.proofs.Chars.{Sofar}
use Rattle.wire_json.proofs.text.push_chars.Given as goal

abbrev pub invariant-loop-part : goal.invariant-loop-part
invariant-loop-part l = record {
  sofar : (bytes : List ℕ) × Sofar (drop l.at l.text) (drop l.place l.text) bytes
      × (string_bytes l.out ≡ string_bytes l.initial.out ++ bytes);
  onward : l.at ≤ l.place;
  within : l.place ≤ length l.text;
}

abbrev pub decreases-loop-part : goal.decreases-loop-part
decreases-loop-part l = length l.text - l.place
