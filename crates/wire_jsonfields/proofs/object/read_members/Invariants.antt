use Rattle.std.proofs.Common.{◌≡◌, ℕ, List, ◌∷◌, drop}
use Rattle.wire_json.specs.Container.{NextIsBehind}
use Rattle.wire_json.specs.Json.{Members}
use Rattle.wire_json.proofs.Elements.{left_at}
use Rattle.wire_json.proofs.Members as members
use Rattle.wire_jsonfields.proofs.Gathering.{Gathered}
use Rattle.wire_jsonfields.proofs.object.read_members.Given as goal

abbrev pub invariant-loop-next : goal.invariant-loop-next
invariant-loop-next l = record {
  sofar : (inside : List ℕ) × (written_text : List ℕ) × (so : Members)
      × (drop l.at l.text ≡ 123 ∷ inside)
      × members.State l.levels l.text inside l.next written_text
      × Gathered l.levels l.text inside l.next l.members.items so;
  onward : NextIsBehind l.at l.next l.text;
}

abbrev pub decreases-loop-next : goal.decreases-loop-next
decreases-loop-next l = left_at l.text l.next
