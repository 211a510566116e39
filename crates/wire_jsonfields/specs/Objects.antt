-- The members of an object, each by its name and the place of its value.
use Rattle.std.specs.Prelude.{◌≡◌, ◌≢◌, ◌⊎◌, ◌≤◌, ℕ, List, [], ◌∷◌, length, drop, Option, Some, None}
use Rattle.std.specs.Cow.{cow_str_bytes}
use Rattle.wire_json.specs.declared.fault.FaultKind.{FaultKind}
use Rattle.wire_json.specs.declared.fault.FaultKind.TheVariants.{Syntax}
use Rattle.wire_json.specs.declared.kind.Kind.{Kind}
use Rattle.wire_json.specs.declared.kind.Kind.TheVariants as kinds
use Rattle.wire_json.specs.Fault.{ValueFault, MembersFault}
use Rattle.wire_json.specs.Json.{Json, Members, no_member, member}
use Rattle.wire_json.specs.Kind.{kind_begun}
use Rattle.wire_json.specs.Reading.{ReadsValue}
use Rattle.wire_jsonfields.specs.declared.object.PlacedMember.{PlacedMember}
use Rattle.wire_protojson.specs.declared.refusal.Reason.{Reason}
use Rattle.wire_protojson.specs.declared.refusal.Reason.TheVariants.{NoJson, NoValue}

-- the entries are the members, in their order, and where each says its value stands, that is read
abbrev pub ArePlaced : List ℕ → List PlacedMember → Members → Type 0
ArePlaced text [] no_member = Unit {0}
ArePlaced text (entry ∷ entries) (member name e ms) =
    (cow_str_bytes entry.name ≡ name)
    × ((rest : List ℕ) × ReadsValue e (drop entry.place text) rest) × ArePlaced text entries ms
ArePlaced text [] (member name e ms) = ⊥
ArePlaced text (entry ∷ entries) no_member = ⊥

-- no object that nests at most so deep stands here
pub data NoObjectHere (levels : ℕ) (old : List ℕ) : Reason → List ℕ → Type 0 where
  nothing : kind_begun old ≡ None → NoObjectHere levels old (NoJson Syntax) old
  other_kind : (kind : Kind) → kind_begun old ≡ Some kind → kind ≢ kinds.Object
      → NoObjectHere levels old NoValue old
  broken : (k : FaultKind) (left : List ℕ) → kind_begun old ≡ Some kinds.Object
      → ValueFault levels old k left → NoObjectHere levels old (NoJson k) left

-- no members stand behind the brace that opens an object
pub data NoMembersHere (levels : ℕ) (inside : List ℕ) : Reason → List ℕ → Type 0 where
  broken_members : (k : FaultKind) (left : List ℕ) → MembersFault levels inside k left
      → NoMembersHere levels inside (NoJson k) left

-- one of the two names of a field
abbrev pub IsNameOf : List ℕ → List ℕ → List ℕ → Type 0
IsNameOf name json_name text = (text ≡ name) ⊎ (text ≡ json_name)

-- the values of the members with such a name, in their order
abbrev pub AreValuesOf : (List ℕ → Type 0) → Members → List Json → Type 0
AreValuesOf Named no_member values = values ≡ []
AreValuesOf Named (member name e ms) values =
    (Named name × ((rest : List Json) × (values ≡ e ∷ rest) × AreValuesOf Named ms rest))
    ⊎ ((Named name → ⊥) × AreValuesOf Named ms values)

-- the place of the one member with such a name, or that there is none
abbrev pub IsOnlyPlace : (List ℕ → Type 0) → List ℕ → Members → Option ℕ → Type 0
IsOnlyPlace Named text ms None = AreValuesOf Named ms []
IsOnlyPlace Named text ms (Some place) =
    (e : Json) × AreValuesOf Named ms (e ∷ [])
    × ((rest : List ℕ) × ReadsValue e (drop place text) rest)

-- two members or more have such a name
abbrev pub AreSeveral : (List ℕ → Type 0) → Members → Type 0
AreSeveral Named ms = (values : List Json) → AreValuesOf Named ms values → 2 ≤ length values
