use Rattle.std.proofs.Common.{◌≡◌, ◌≤◌, ℕ, suc, List, ◌∷◌, map, drop}
use Rattle.wire_json.specs.Container.{NextIsBehind}
use Rattle.wire_json.specs.Json.{Elements, elements_depth}
use Rattle.wire_json.proofs.Elements.{left_at}
use Rattle.wire_jsonfields.specs.Lists.{EachMeans}
use Rattle.wire_jsonfields.proofs.Listing.{ListSofar}
use Rattle.wire_jsonfields.proofs.list.read_elements.Given as goal

abbrev pub invariant-loop-next : goal.invariant-loop-next
invariant-loop-next g l = record {
  sofar : (inside : List ℕ) × (so : Elements) × (drop l.at l.text ≡ 91 ∷ inside)
      × ListSofar l.text inside l.next so × (suc (elements_depth so) ≤ l.levels)
      × EachMeans g.V.JsonValue.means so (map g.V.JsonValue.view l.list.items);
  onward : NextIsBehind l.at l.next l.text;
}

abbrev pub decreases-loop-next : goal.decreases-loop-next
decreases-loop-next g l = left_at l.text l.next
