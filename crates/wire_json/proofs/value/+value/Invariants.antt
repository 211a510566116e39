-- A value takes a level for what stands in it. A loop keeps what was read so far.
use Rattle.std.proofs.Common.{◌≡◌, ◌+◌, ◌*◌, ℕ, List, ◌∷◌, drop}
use Rattle.wire_json.specs.Container.{NextIsBehind}
use Rattle.wire_json.proofs.Elements.{left_at}
use Rattle.wire_json.proofs.Elements as elements
use Rattle.wire_json.proofs.Members as members
use Rattle.wire_json.proofs.value.+value.Given as goal

abbrev pub decreases-skip_elements : goal.decreases-skip_elements
decreases-skip_elements l = 2 * l.levels + 1

abbrev pub decreases-skip_members : goal.decreases-skip_members
decreases-skip_members l = 2 * l.levels + 1

abbrev pub decreases-skip_value : goal.decreases-skip_value
decreases-skip_value l = 2 * l.levels

abbrev pub invariant-skip_elements-loop-next : goal.invariant-skip_elements-loop-next
invariant-skip_elements-loop-next l = record {
  sofar : (inside : List ℕ) × (written_text : List ℕ) × (drop l.at l.text ≡ 91 ∷ inside)
      × elements.State l.levels l.text inside l.next written_text;
  onward : NextIsBehind l.at l.next l.text;
}

abbrev pub decreases-skip_elements-loop-next : goal.decreases-skip_elements-loop-next
decreases-skip_elements-loop-next l = left_at l.text l.next

abbrev pub invariant-skip_members-loop-next : goal.invariant-skip_members-loop-next
invariant-skip_members-loop-next l = record {
  sofar : (inside : List ℕ) × (written_text : List ℕ) × (drop l.at l.text ≡ 123 ∷ inside)
      × members.State l.levels l.text inside l.next written_text;
  onward : NextIsBehind l.at l.next l.text;
}

abbrev pub decreases-skip_members-loop-next : goal.decreases-skip_members-loop-next
decreases-skip_members-loop-next l = left_at l.text l.next
