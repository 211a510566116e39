-- What is passed over is white space.
use Rattle.std.proofs.Common.{◌≡◌, ◌-◌, length, drop}
use Rattle.wire_json.specs.Answer.{IsOnward}
use Rattle.wire_json.specs.Bytes.{past_space}
use Rattle.wire_json.proofs.bytes.skip_space.Given as goal

abbrev pub invariant-loop-place : goal.invariant-loop-place
invariant-loop-place l = record {
  space : past_space (drop l.place l.text) ≡ past_space (drop l.at l.text);
  onward : IsOnward l.at l.place l.text;
}

abbrev pub decreases-loop-place : goal.decreases-loop-place
decreases-loop-place l = length l.text - l.place
