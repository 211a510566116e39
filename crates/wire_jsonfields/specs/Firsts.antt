-- Which member a refusal is of: the first of its like, or the second.
use Rattle.std.specs.Prelude.{◌≡◌, ◌⊎◌, ℕ, List, [], ◌∷◌, drop, Some}
use Rattle.std.specs.Cow.{cow_str_bytes}
use Rattle.wire_json.specs.declared.kind.Kind.TheVariants as kinds
use Rattle.wire_json.specs.Kind.{kind_begun}
use Rattle.wire_jsonfields.specs.declared.object.PlacedMember.{PlacedMember}

-- this is the first entry of which it holds, and these stand behind it
abbrev pub StandsFirst : (PlacedMember → Type 0) → List PlacedMember → PlacedMember → List PlacedMember → Type 0
StandsFirst Holds [] first behind = ⊥
StandsFirst Holds (entry ∷ entries) first behind =
    (Holds entry × (first ≡ entry) × (behind ≡ entries))
    ⊎ ((Holds entry → ⊥) × StandsFirst Holds entries first behind)

abbrev pub HoldsOfNone : (PlacedMember → Type 0) → List PlacedMember → Type 0
HoldsOfNone Holds [] = Unit {0}
HoldsOfNone Holds (entry ∷ entries) = (Holds entry → ⊥) × HoldsOfNone Holds entries

-- the entry has no such name
abbrev pub IsUnknown : (List ℕ → Type 0) → PlacedMember → Type 0
IsUnknown Named entry = Named (cow_str_bytes entry.name) → ⊥

-- the entry has such a name, and its value is not `null`
abbrev pub HasValue : (List ℕ → Type 0) → List ℕ → PlacedMember → Type 0
HasValue Named text entry =
    Named (cow_str_bytes entry.name)
    × (kind_begun (drop entry.place text) ≡ Some kinds.Null → ⊥)

-- the place of the second value; of the first one where it is alone, and 0 where there is none
abbrev pub IsSecondPlace : (PlacedMember → Type 0) → List PlacedMember → ℕ → Type 0
IsSecondPlace Holds entries place =
    (HoldsOfNone Holds entries × (place ≡ 0))
    ⊎ ((first : PlacedMember) × (behind : List PlacedMember) × StandsFirst Holds entries first behind
    × ((HoldsOfNone Holds behind × (place ≡ first.place))
    ⊎ ((second : PlacedMember) × (more : List PlacedMember) × StandsFirst Holds behind second more
    × (place ≡ second.place))))
