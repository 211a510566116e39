-- Where a record stands that is told within groups.
use Rattle.std.proofs.Common.{◌≡◌, ℕ, ◌+◌, ◌-◌, ◌≤◌, ap, sym, ◌∙◌, subst, arith}
use Rattle.wire_read.specs.Reading.{groups_of}
use Rattle.wire_dynamic.specs.declared.schema.Schema.{Schema}
use Rattle.wire_dynamic.specs.declared.walk.Walk.{Walk}
use Rattle.wire_dynamic.specs.Told.{reader_of, root_of, schema_of}
use Rattle.wire_dynamic.specs.Walks.{unknown_groups}
use Rattle.wire_dump.specs.declared.typed_record.Spot.{Spot}
use Rattle.wire_dump.specs.Shows.{budget_at}

-- the same place within so many groups that the schema lacks
abbrev pub in_groups : Spot → ℕ → Spot
in_groups spot count = record {
  level = spot.level;
  depth = spot.depth;
  budget = 10 - count;
  place = spot.place;
}

pub spot_within : (spot : Spot) (count : ℕ) (new : Spot) → new ≡ in_groups spot count
    → spot.depth ≤ 100 → spot.level + spot.depth ≤ 200
    → (new.depth ≤ 100) × (new.level + new.depth ≤ 200) × (new.budget ≤ 10)
spot_within spot count new is shallow bounded =
    let less : 10 - count ≤ 10 = omega arith in
    subst (λ (x : Spot). (x.depth ≤ 100) × (x.level + x.depth ≤ 200) × (x.budget ≤ 10)) (sym is)
    (shallow, bounded, less)

-- by what a walk tells of the groups that are open
pub within_here : (s : Schema) (root : ℕ) (spot : Spot) (w : Walk) (count : ℕ) (new : Spot)
    → new ≡ in_groups spot count
    → count ≡ unknown_groups (schema_of w) (root_of w) (groups_of (reader_of w))
    → schema_of w ≡ s → root_of w ≡ root
    → new ≡ record {
      level = spot.level;
      depth = spot.depth;
      budget = budget_at s root (groups_of (reader_of w));
      place = spot.place;
    }
within_here s root spot w count new is counted schema type =
    is ∙ ap (in_groups spot) (counted
    ∙ ap (λ (x : Schema). unknown_groups x (root_of w) (groups_of (reader_of w))) schema
    ∙ ap (λ (x : ℕ). unknown_groups s x (groups_of (reader_of w))) type)
