-- What an object says of a field.
use Rattle.std.proofs.Common.{refl}
use Rattle.std.specs.Prelude.{◌≡◌, ℕ, List, [], ◌∷◌, Option, Some, None}
use Rattle.wire_json.specs.Json.{Json, null, boolean, number, string, array, object, Members, no_member, member}
use Rattle.wire_jsonfields.specs.Objects.{AreValuesOf}

-- `null` leaves the field as it is without a member
abbrev pub MeansUnlessNull : {V : Type 0} → V → (Json → V → Type 0) → Json → V → Type 0
MeansUnlessNull default Means null value = value ≡ default
MeansUnlessNull default Means (boolean b) value = Means (boolean b) value
MeansUnlessNull default Means (number text) value = Means (number text) value
MeansUnlessNull default Means (string bytes) value = Means (string bytes) value
MeansUnlessNull default Means (array es) value = Means (array es) value
MeansUnlessNull default Means (object ms) value = Means (object ms) value

-- a value of the type that may be absent
abbrev pub MeansSome : {V : Type 0} → (Json → V → Type 0) → Json → Option V → Type 0
MeansSome Means json None = ⊥
MeansSome Means json (Some value) = Means json value

-- the tree of a value that may be absent
abbrev pub IsSomeTree : {V : Type 0} → (V → Json → Type 0) → Option V → Json → Type 0
IsSomeTree Tree None json = json ≡ null
IsSomeTree Tree (Some value) json = Tree value json

-- at most one member is the field's
abbrev pub ValuesMean : {V : Type 0} → V → (Json → V → Type 0) → List Json → V → Type 0
ValuesMean default Means [] value = value ≡ default
ValuesMean default Means (e ∷ []) value = MeansUnlessNull default Means e value
ValuesMean default Means (e ∷ f ∷ more) value = ⊥

-- what the members with a name of the field say of it
abbrev pub FieldMeans : {V : Type 0} → V → (Json → V → Type 0) → (List ℕ → Type 0) → Members → V
    → Type 0
FieldMeans default Means Named ms value =
    (values : List Json) × AreValuesOf Named ms values × ValuesMean default Means values value

-- where there are no members a field is absent
pub unsaid : {V : Type 0} (default : V) (Means : Json → V → Type 0) (Named : List ℕ → Type 0)
    → FieldMeans default Means Named no_member default
unsaid default Means Named = ([], refl, refl)

-- each member has such a name
abbrev pub EachKnown : (List ℕ → Type 0) → Members → Type 0
EachKnown Known no_member = Unit {0}
EachKnown Known (member name e ms) = Known name × EachKnown Known ms
