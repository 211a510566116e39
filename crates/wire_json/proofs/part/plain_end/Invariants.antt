-- What is passed over is plain bytes.
use Rattle.std.proofs.Common.{◌≡◌, ◌-◌, length, drop}
use Rattle.wire_json.specs.Part.{is_plain}
use Rattle.wire_json.specs.Answer.{IsOnward}
use Rattle.wire_json.specs.Bytes.{past}
use Rattle.wire_json.proofs.part.plain_end.Given as goal

abbrev pub invariant-loop-place : goal.invariant-loop-place
invariant-loop-place l = record {
  plain : past is_plain (drop l.place l.text) ≡ past is_plain (drop l.at l.text);
  onward : IsOnward l.at l.place l.text;
}

abbrev pub decreases-loop-place : goal.decreases-loop-place
decreases-loop-place l = length l.text - l.place
