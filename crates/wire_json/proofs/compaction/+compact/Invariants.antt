-- A value takes a level for what stands in it. A loop keeps what was read so far, and its text.
use Rattle.std.proofs.Common.{◌≡◌, ◌+◌, ◌*◌, ℕ, List, ◌∷◌, ◌++◌, drop}
use Rattle.wire_json.specs.Container.{NextIsBehind}
use Rattle.wire_json.proofs.Elements.{left_at}
use Rattle.wire_json.proofs.Elements as elements
use Rattle.wire_json.proofs.Members as members
use Rattle.wire_json.proofs.compaction.+compact.Given as goal

abbrev pub decreases-compact_elements : goal.decreases-compact_elements
decreases-compact_elements l = 2 * l.levels + 1

abbrev pub decreases-compact_members : goal.decreases-compact_members
decreases-compact_members l = 2 * l.levels + 1

abbrev pub decreases-compact_value : goal.decreases-compact_value
decreases-compact_value l = 2 * l.levels

abbrev pub invariant-compact_elements-loop-next : goal.invariant-compact_elements-loop-next
invariant-compact_elements-loop-next l = record {
  sofar : (inside : List ℕ) × (written_text : List ℕ) × (drop l.at l.text ≡ 91 ∷ inside)
      × elements.State l.levels l.text inside l.next written_text
      × (l.out.items ≡ l.fn.out.items ++ (91 ∷ written_text));
  onward : NextIsBehind l.at l.next l.text;
}

abbrev pub decreases-compact_elements-loop-next : goal.decreases-compact_elements-loop-next
decreases-compact_elements-loop-next l = left_at l.text l.next

abbrev pub invariant-compact_members-loop-next : goal.invariant-compact_members-loop-next
invariant-compact_members-loop-next l = record {
  sofar : (inside : List ℕ) × (written_text : List ℕ) × (drop l.at l.text ≡ 123 ∷ inside)
      × members.State l.levels l.text inside l.next written_text
      × (l.out.items ≡ l.fn.out.items ++ (123 ∷ written_text));
  onward : NextIsBehind l.at l.next l.text;
}

abbrev pub decreases-compact_members-loop-next : goal.decreases-compact_members-loop-next
decreases-compact_members-loop-next l = left_at l.text l.next
