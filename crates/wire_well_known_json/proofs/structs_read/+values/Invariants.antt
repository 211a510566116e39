-- A list and a struct take a level for what stands in them. A loop keeps what was read so far.
use Rattle.std.proofs.Common.{◌≡◌, ◌+◌, ◌*◌, ◌≤◌, ℕ, suc, List, ◌∷◌, map, drop}
use Rattle.std.specs.Prelude.{string_bytes}
use Rattle.wire_json.specs.Container.{NextIsBehind}
use Rattle.wire_json.specs.Json.{Elements, Members, elements_depth}
use Rattle.wire_json.proofs.Elements.{left_at}
use Rattle.wire_jsonfields.specs.Lists.{EachMeans}
use Rattle.wire_jsonfields.specs.Maps.{entries_seen}
use Rattle.wire_jsonfields.specs.Objects.{ArePlaced}
use Rattle.wire_jsonfields.proofs.Listing.{ListSofar}
use Rattle.wire_jsonfields.proofs.MapReads.{MapSofar}
use Rattle.wire_well_known_json.specs.Structs.{IsName, MeansValue, name_order, value-plain}
use Rattle.wire_well_known_json.proofs.structs_read.+values.Given as goal

abbrev pub decreases-read_value : goal.decreases-read_value
decreases-read_value l = 4 * l.levels + 2

abbrev pub decreases-read_kind : goal.decreases-read_kind
decreases-read_kind l = 4 * l.levels + 1

abbrev pub decreases-read_values : goal.decreases-read_values
decreases-read_values l = 4 * l.levels

abbrev pub decreases-read_fields : goal.decreases-read_fields
decreases-read_fields l = 4 * l.levels

abbrev pub decreases-read_members : goal.decreases-read_members
decreases-read_members l = 4 * l.levels + 3

abbrev pub invariant-read_values-loop-next : goal.invariant-read_values-loop-next
invariant-read_values-loop-next l = record {
  sofar : (inside : List ℕ) × (so : Elements) × (drop l.at l.text ≡ 91 ∷ inside)
      × ListSofar l.text inside l.next so × (suc (elements_depth so) ≤ l.levels)
      × EachMeans MeansValue so (map value-plain l.values.items);
  onward : NextIsBehind l.at l.next l.text;
}

abbrev pub decreases-read_values-loop-next : goal.decreases-read_values-loop-next
decreases-read_values-loop-next l = left_at l.text l.next

abbrev pub invariant-read_members-loop-member : goal.invariant-read_members-loop-member
invariant-read_members-loop-member l =
    (ms : Members) → ArePlaced l.text l.members ms
    → MapSofar name_order IsName MeansValue l.text (drop l.member-index l.members)
    (entries_seen string_bytes value-plain l.map.entries) ms
