-- What holds of values in JSON.
use Rattle.std.specs.Prelude.{◌≡◌, ℕ, List, [], ◌∷◌, None}
use Rattle.wire_json.specs.Json.{Json, no_member, depth}
use Rattle.wire_jsonfields.specs.Back.{ComesBack, SpellsOneValue}
use Rattle.wire_jsonfields.specs.Fields.{IsSomeTree}
use Rattle.wire_jsonfields.specs.KindsBack.{IsSomeInRange}
use Rattle.wire_jsonfields.specs.Levels.{IsReadFrom}
use Rattle.wire_jsonfields.specs.Lists.{IsListTree, ListMeans}
use Rattle.wire_jsonfields.specs.Messages.{IsFieldTree}
use Rattle.wire_jsonfields.specs.Objects.{IsNameOf}
use Rattle.wire_jsonfields.specs.OneValues.{SayOne}
use Rattle.wire_jsonfields.specs.Parts.{IsInRangeUnless, PartComesBack}
use Rattle.wire_well_known_json.specs.Nullable.{NullableMeans}
use Rattle.wire_well_known_json.specs.StructKinds.{IsAnyValue}
use Rattle.wire_well_known_json.specs.Structs.{Plain, IsValueTree, MeansValue, nesting}

-- The text of a value is read as it, at just as many levels as lists and structs stand in one
-- another in it, or more.
pub record IsReadAtItsLevels (v : Plain) (json : Json) : Type 0 where
  pub read : IsReadFrom MeansValue json v
  pub levels : depth json ≡ nesting v

abbrev pub ValuesAreReadBack : Type 0
ValuesAreReadBack = (v : Plain) (json : Json) → IsValueTree v json → IsReadAtItsLevels v json

-- a text is one value at most
abbrev pub TextsAreOneValue : Type 0
TextsAreOneValue = SpellsOneValue MeansValue

-- A field of the type `Value` of these names: what is written of it is read as it, `null` too, and
-- whatever members of other names stand beside it; members say one value at most; and where there
-- are none it is absent.
pub record IsValueField (name json_name : List ℕ) : Type 0 where
  pub back : PartComesBack ((name, json_name) ∷ [])
      (NullableMeans MeansValue (IsNameOf name json_name))
      (IsFieldTree None (IsSomeTree IsValueTree) json_name)
      (IsInRangeUnless None (IsSomeInRange IsAnyValue))
  pub one : SayOne (NullableMeans MeansValue (IsNameOf name json_name))
  pub unsaid : NullableMeans MeansValue (IsNameOf name json_name) no_member None

abbrev pub ValueFieldsAreParts : Type 0
ValueFieldsAreParts = (name json_name : List ℕ) → IsValueField name json_name

-- a list of values is read back, whether or not some are `null`
abbrev pub ListsOfValuesComeBack : Type 0
ListsOfValuesComeBack =
    (vs : List Plain) → ComesBack (ListMeans MeansValue) (IsListTree IsValueTree) vs
