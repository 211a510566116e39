-- `Sample` as contracts see it, and what an object says of it.
use Rattle.std.proofs.Common.{refl}
use Rattle.std.specs.Prelude.{◌≡◌, ℕ, ℤ, List, [], ◌∷◌, ◌++◌, FitsSigned, IsUtf8, codes, Option, None, option_map, string_bytes}
use Rattle.std.specs.Float.{Float, binary64, float_zero}
use Rattle.std.specs.Int.{w64}
use Rattle.wire_json.specs.Json.{Json, Members, no_member, string}
use Rattle.wire_json.specs.Written.{written}
use Rattle.wire_protojson.specs.Laws.{IsReadAs}
use Rattle.wire_jsonfields.specs.Levels.{SpellsWithin}
use Rattle.wire_jsonfields.specs.declared.sample.Sample.{Sample}
use Rattle.wire_jsonfields.specs.Fields.{FieldMeans, IsSomeTree, MeansSome, unsaid}
use Rattle.wire_jsonfields.specs.Messages.{IsFieldTree, IsObjectTree, ObjectMeans}
use Rattle.wire_jsonfields.specs.Objects.{IsNameOf}
use Rattle.wire_jsonfields.specs.OneValues.{SayOne, one_field, one_some}
use Rattle.wire_jsonfields.specs.Parts.{AreBoth, BothSay, BothTrees, IsInRangeUnless, MembersSay, PartComesBack, both_back, field_back, message_back, one_both, one_said}
use Rattle.wire_jsonfields.specs.Names.{Names}
use Rattle.wire_jsonfields.specs.Back.{ComesBack}
use Rattle.wire_jsonfields.specs.KindsBack.{IsSomeInRange, some_back}
use Rattle.wire_jsonfields.specs.ScalarsBack.{float_back, long_signed_back, text_back}
use Rattle.wire_protojson.specs.DecidedScalars.{floats_decided, signed_decided, strings_decided}
use Rattle.wire_protojson.specs.Numbers.{MeansFloat, MeansSigned}
use Rattle.wire_protojson.specs.Scalars.{MeansString}
use Rattle.wire_protojson.specs.Trees.{IsFloatTree, long_signed_tree}

abbrev pub Sample-Value : Type 0
Sample-Value = (List ℕ) × (Float × Option ℤ)

abbrev pub sample-default : Sample-Value
sample-default = ([], (float_zero, None))

abbrev pub sample-value : Sample → Sample-Value
sample-value m = (string_bytes m.name, (m.value, option_map (λ v. v) m.sample_count))

abbrev pub IsOfName : List ℕ → Type 0
IsOfName = IsNameOf (codes "name") (codes "name")

abbrev pub IsOfValue : List ℕ → Type 0
IsOfValue = IsNameOf (codes "value") (codes "value")

abbrev pub IsOfCount : List ℕ → Type 0
IsOfCount = IsNameOf (codes "sample_count") (codes "sampleCount")

abbrev pub name-names : List Names
name-names = (codes "name", codes "name") ∷ []

abbrev pub value-names : List Names
value-names = (codes "value", codes "value") ∷ []

abbrev pub count-names : List Names
count-names = (codes "sample_count", codes "sampleCount") ∷ []

abbrev pub sample-names : List Names
sample-names = name-names ++ (value-names ++ count-names)

abbrev pub NameSays : Members → List ℕ → Type 0
NameSays = FieldMeans [] MeansString IsOfName

abbrev pub ValueSays : Members → Float → Type 0
ValueSays = FieldMeans float_zero (MeansFloat binary64) IsOfValue

abbrev pub CountSays : Members → Option ℤ → Type 0
CountSays = FieldMeans None (MeansSome (MeansSigned w64)) IsOfCount

-- what the members say: a line a field
abbrev pub sample-fields : Members → Sample-Value → Type 0
sample-fields = BothSay NameSays (BothSay ValueSays CountSays)

-- the same, and each member is of a field
abbrev pub sample-says : Members → Sample-Value → Type 0
sample-says = MembersSay sample-names sample-fields

pub name-unsaid : NameSays no_member []
name-unsaid = unsaid [] MeansString IsOfName

pub value-unsaid : ValueSays no_member float_zero
value-unsaid = unsaid float_zero (MeansFloat binary64) IsOfValue

pub count-unsaid : CountSays no_member None
count-unsaid = unsaid None (MeansSome (MeansSigned w64)) IsOfCount

pub sample-unsaid : sample-says no_member sample-default
sample-unsaid = (tt, (name-unsaid, (value-unsaid, count-unsaid)))

pub one_name : SayOne NameSays
one_name = one_field [] MeansString strings_decided.one_meaning IsOfName

pub one_value_field : SayOne ValueSays
one_value_field =
    one_field float_zero (MeansFloat binary64) (floats_decided binary64).one_meaning IsOfValue

pub one_count : SayOne CountSays
one_count =
    one_field None (MeansSome (MeansSigned w64))
    (one_some (MeansSigned w64) (signed_decided w64).one_meaning) IsOfCount

pub one_sample : SayOne sample-says
one_sample =
    one_said sample-names sample-fields
    (one_both NameSays (BothSay ValueSays CountSays) one_name
    (one_both ValueSays CountSays one_value_field one_count))

-- ---- what is written

abbrev pub NameTrees : List ℕ → Members → Type 0
NameTrees = IsFieldTree [] (λ s json. json ≡ string s) (codes "name")

abbrev pub ValueTrees : Float → Members → Type 0
ValueTrees = IsFieldTree float_zero (IsFloatTree binary64) (codes "value")

abbrev pub CountTrees : Option ℤ → Members → Type 0
CountTrees = IsFieldTree None (IsSomeTree (λ z json. json ≡ long_signed_tree z)) (codes "sampleCount")

-- the members that are written
abbrev pub sample-trees : Sample-Value → Members → Type 0
sample-trees = BothTrees NameTrees (BothTrees ValueTrees CountTrees)

-- ---- what is read back

abbrev pub IsNameInRange : List ℕ → Type 0
IsNameInRange = IsInRangeUnless [] IsUtf8

abbrev pub IsValueInRange : Float → Type 0
IsValueInRange = IsInRangeUnless float_zero (λ x. Unit {0})

abbrev pub IsCountInRange : Option ℤ → Type 0
IsCountInRange = IsInRangeUnless None (IsSomeInRange (FitsSigned w64))

-- the name is UTF-8, and the count has 64 bits
abbrev pub IsSampleInRange : Sample-Value → Type 0
IsSampleInRange = AreBoth IsNameInRange (AreBoth IsValueInRange IsCountInRange)

pub name-back : PartComesBack name-names NameSays NameTrees IsNameInRange
name-back =
    field_back MeansString (λ s json. json ≡ string s) (codes "name") (codes "name") IsUtf8
    text_back []

pub value-back : PartComesBack value-names ValueSays ValueTrees IsValueInRange
value-back =
    field_back (MeansFloat binary64) (IsFloatTree binary64) (codes "value") (codes "value")
    (λ x. Unit {0}) (λ x h. float_back binary64 x) float_zero

pub count-back : PartComesBack count-names CountSays CountTrees IsCountInRange
count-back =
    field_back (MeansSome (MeansSigned w64)) (IsSomeTree (λ z json. json ≡ long_signed_tree z))
    (codes "sample_count") (codes "sampleCount") (IsSomeInRange (FitsSigned w64))
    (some_back (MeansSigned w64) (λ z json. json ≡ long_signed_tree z) (FitsSigned w64)
    long_signed_back) None

pub sample-back : (v : Sample-Value) → IsSampleInRange v
    → ComesBack (ObjectMeans sample-says) (IsObjectTree sample-trees) v
sample-back =
    message_back sample-names sample-fields sample-trees IsSampleInRange refl
    (both_back name-names (value-names ++ count-names) NameSays (BothSay ValueSays CountSays)
    NameTrees (BothTrees ValueTrees CountTrees) IsNameInRange (AreBoth IsValueInRange IsCountInRange)
    name-back
    (both_back value-names count-names ValueSays CountSays ValueTrees CountTrees IsValueInRange
    IsCountInRange value-back count-back))

-- what is written of a value is read as it
abbrev pub SampleReadsBack : Type 0
SampleReadsBack =
    (v : Sample-Value) (json : Json) → IsSampleInRange v → IsObjectTree sample-trees v json
    → IsReadAs (ObjectMeans sample-says) v json

-- and so is its text, at one level
abbrev pub SampleIsRead : Type 0
SampleIsRead =
    (v : Sample-Value) (json : Json) → IsSampleInRange v → IsObjectTree sample-trees v json
    → SpellsWithin 1 (ObjectMeans sample-says) (written json) v
