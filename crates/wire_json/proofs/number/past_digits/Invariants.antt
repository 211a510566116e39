-- What is passed over is digits.
use Rattle.std.proofs.Common.{◌≡◌, ◌-◌, length, drop}
use Rattle.std.specs.Char.{is_ascii_digit}
use Rattle.wire_json.specs.Answer.{IsOnward}
use Rattle.wire_json.specs.Bytes.{past}
use Rattle.wire_json.proofs.number.past_digits.Given as goal

abbrev pub invariant-loop-place : goal.invariant-loop-place
invariant-loop-place l = record {
  digits : past is_ascii_digit (drop l.place l.text) ≡ past is_ascii_digit (drop l.at l.text);
  onward : IsOnward l.at l.place l.text;
}

abbrev pub decreases-loop-place : goal.decreases-loop-place
decreases-loop-place l = length l.text - l.place
