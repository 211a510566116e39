-- `Batch` as contracts see it, and what an object says of it.
use Rattle.std.proofs.Common.{refl}
use Rattle.std.specs.Prelude.{◌≡◌, ◌⊎◌, ℕ, ℤ, pos, List, [], ◌∷◌, ◌++◌, FitsSigned, IsUtf8, map, codes, Option, Some, None, option_map, String, Box, Vec, string_bytes, box_value}
use Rattle.std.specs.Cmp.Lexicographic.{slice_cmp}
use Rattle.std.specs.Int.{w32, w64}
use Rattle.std.specs.List.{AllByRecursion}
use Rattle.std.proofs.lemmas.Cmp.{nat_list_cmp_total}
use Rattle.std.specs.Ordering.{nat_cmp}
use Rattle.wire_json.specs.Json.{Json, Members, no_member, string}
use Rattle.wire_json.specs.Written.{written}
use Rattle.wire_protojson.specs.Laws.{IsReadAs}
use Rattle.wire_jsonfields.specs.Levels.{SpellsWithin}
use Rattle.wire_jsonfields.specs.Choices.{oneof_seen, either_seen, either_unsaid, either_value}
use Rattle.wire_jsonfields.specs.EnumFields.{enum_decided}
use Rattle.wire_jsonfields.specs.Fields.{FieldMeans, MeansSome, unsaid}
use Rattle.wire_jsonfields.specs.Keys.{one_text_key}
use Rattle.wire_jsonfields.specs.Lists.{IsListTree, ListMeans}
use Rattle.wire_jsonfields.specs.Maps.{IsMapTree, MapMeans, entries_seen}
use Rattle.wire_jsonfields.specs.Messages.{IsFieldTree, IsObjectTree, ObjectMeans}
use Rattle.wire_jsonfields.specs.Objects.{IsNameOf}
use Rattle.wire_jsonfields.specs.Oneofs.{EitherSays, EitherTrees, IsMemberTree, OneofTrees, one_either}
use Rattle.wire_jsonfields.specs.OneValues.{SayOne, one_field, one_list, one_map, one_object, one_some}
use Rattle.wire_jsonfields.specs.Parts.{AreBoth, BothSay, BothTrees, ChoiceComesBack, IsEitherInRange, IsInRangeUnless, IsOneofInRange, MembersSay, PartComesBack, both_back, either_back, field_back, message_back, one_both, one_said, oneof_back, variant_back}
use Rattle.wire_jsonfields.specs.Names.{Names}
use Rattle.wire_jsonfields.specs.Back.{ComesBack}
use Rattle.wire_jsonfields.specs.KindsBack.{IsMapInRange, all_back, entries_back, enum_comes_back, names_agree, names_are_texts, text_key}
use Rattle.wire_jsonfields.specs.ScalarsBack.{long_signed_back, text_back}
use Rattle.wire_jsonfields.specs.Sample.{IsSampleInRange, Sample-Value, one_sample, sample-back, sample-says, sample-trees, sample-value}
use Rattle.wire_protojson.specs.DecidedScalars.{signed_decided, strings_decided}
use Rattle.wire_protojson.specs.Numbers.{MeansSigned}
use Rattle.wire_protojson.specs.Scalars.{MeansString}
use Rattle.wire_protojson.specs.Trees.{long_signed_tree}
use Rattle.std.specs.declared.alloc.Global.{Global}
use Rattle.wire_protojson.specs.Enums.{AreTexts, EnumTable, IsEnumTree, MeansEnum, NamesAgree}
use Rattle.wire_jsonfields.specs.declared.batch.Batch.{Batch}
use Rattle.wire_jsonfields.specs.declared.grade.Grade.{Grade}
use Rattle.wire_jsonfields.specs.declared.grade.Grade.TheVariants.{Low, High, Unknown}
use Rattle.wire_jsonfields.specs.declared.origin.Origin.{Origin}
use Rattle.wire_jsonfields.specs.declared.origin.Origin.TheVariants.{File, Template}
use Rattle.wire_jsonfields.specs.declared.choice.Chosen.{Chosen}
use Rattle.wire_jsonfields.specs.declared.sample.Sample.{Sample}

abbrev pub grade-number : Grade → ℤ
grade-number Low = pos 0
grade-number High = pos 1
grade-number (Unknown number) = number

abbrev pub grade-names : EnumTable
grade-names = (codes "LOW", pos 0) ∷ (codes "HIGH", pos 1) ∷ []

abbrev pub origin-file : Origin → Option (String Global)
origin-file (File file) = Some file
origin-file (Template sample) = None

abbrev pub origin-template : Origin → Option (Box Sample Global)
origin-template (File file) = None
origin-template (Template sample) = Some sample

-- ---- the message

abbrev pub Origin-Value : Type 0
Origin-Value = (List ℕ) ⊎ Sample-Value

abbrev pub Batch-Value : Type 0
Batch-Value = ℤ × (List Sample-Value × (List ((List ℕ) × ℤ) × Option Origin-Value))

abbrev pub batch-default : Batch-Value
batch-default = (pos 0, ([], ([], None)))

abbrev pub origin-value : Origin → Option Origin-Value
origin-value o =
    either_seen (option_map (λ s. string_bytes s) (origin-file o))
    (option_map (λ s. sample-value (box_value s)) (origin-template o))

abbrev pub batch-value : Batch → Batch-Value
batch-value m = (
  grade-number m.grade,
  (
    map sample-value m.samples.items,
    (
      entries_seen (λ k. string_bytes k) (λ v. v) m.totals.entries,
      oneof_seen origin-value m.origin,
    ),
  ),
)

abbrev pub IsOfGrade : List ℕ → Type 0
IsOfGrade = IsNameOf (codes "grade") (codes "grade")

abbrev pub IsOfSamples : List ℕ → Type 0
IsOfSamples = IsNameOf (codes "samples") (codes "samples")

abbrev pub IsOfTotals : List ℕ → Type 0
IsOfTotals = IsNameOf (codes "totals") (codes "totals")

abbrev pub IsOfFile : List ℕ → Type 0
IsOfFile = IsNameOf (codes "file") (codes "file")

abbrev pub IsOfTemplate : List ℕ → Type 0
IsOfTemplate = IsNameOf (codes "template_sample") (codes "templateSample")

abbrev pub grade-field-names : List Names
grade-field-names = (codes "grade", codes "grade") ∷ []

abbrev pub samples-names : List Names
samples-names = (codes "samples", codes "samples") ∷ []

abbrev pub totals-names : List Names
totals-names = (codes "totals", codes "totals") ∷ []

abbrev pub file-names : List Names
file-names = (codes "file", codes "file") ∷ []

abbrev pub template-names : List Names
template-names = (codes "template_sample", codes "templateSample") ∷ []

abbrev pub origin-names : List Names
origin-names = file-names ++ template-names

abbrev pub batch-names : List Names
batch-names = grade-field-names ++ (samples-names ++ (totals-names ++ origin-names))

abbrev pub samples-value : Vec Sample Global → List Sample-Value
samples-value samples = map sample-value samples.items

abbrev pub template-value : Box Sample Global → Sample-Value
template-value template = sample-value (box_value template)

abbrev pub origin-chosen : Chosen (String Global) (Box Sample Global) → Origin-Value
origin-chosen = either_value (λ s. string_bytes s) template-value

abbrev pub GradeSays : Members → ℤ → Type 0
GradeSays = FieldMeans (pos 0) (MeansEnum grade-names) IsOfGrade

abbrev pub SamplesSay : Members → List Sample-Value → Type 0
SamplesSay = FieldMeans [] (ListMeans (ObjectMeans sample-says)) IsOfSamples

abbrev pub TotalsSay : Members → List ((List ℕ) × ℤ) → Type 0
TotalsSay =
    FieldMeans [] (MapMeans (slice_cmp nat_cmp) (λ text k. text ≡ k) (MeansSigned w64)) IsOfTotals

abbrev pub FileSays : Members → Option (List ℕ) → Type 0
FileSays = FieldMeans None (MeansSome MeansString) IsOfFile

abbrev pub TemplateSays : Members → Option Sample-Value → Type 0
TemplateSays = FieldMeans None (MeansSome (ObjectMeans sample-says)) IsOfTemplate

abbrev pub OriginSays : Members → Option Origin-Value → Type 0
OriginSays = EitherSays FileSays TemplateSays

-- what the members say: a line a field, and one for the oneof
abbrev pub batch-fields : Members → Batch-Value → Type 0
batch-fields = BothSay GradeSays (BothSay SamplesSay (BothSay TotalsSay OriginSays))

-- the same, and each member is of a field
abbrev pub batch-says : Members → Batch-Value → Type 0
batch-says = MembersSay batch-names batch-fields

pub grade-unsaid : GradeSays no_member (pos 0)
grade-unsaid = unsaid (pos 0) (MeansEnum grade-names) IsOfGrade

pub samples-unsaid : SamplesSay no_member []
samples-unsaid = unsaid [] (ListMeans (ObjectMeans sample-says)) IsOfSamples

pub totals-unsaid : TotalsSay no_member []
totals-unsaid =
    unsaid [] (MapMeans (slice_cmp nat_cmp) (λ text k. text ≡ k) (MeansSigned w64)) IsOfTotals

pub file-unsaid : FileSays no_member None
file-unsaid = unsaid None (MeansSome MeansString) IsOfFile

pub template-unsaid : TemplateSays no_member None
template-unsaid = unsaid None (MeansSome (ObjectMeans sample-says)) IsOfTemplate

pub origin-unsaid : OriginSays no_member None
origin-unsaid = either_unsaid FileSays TemplateSays file-unsaid template-unsaid

pub batch-unsaid : batch-says no_member batch-default
batch-unsaid = (tt, (grade-unsaid, (samples-unsaid, (totals-unsaid, origin-unsaid))))

pub one_grade : SayOne GradeSays
one_grade = one_field (pos 0) (MeansEnum grade-names) (enum_decided grade-names).one_meaning IsOfGrade

pub one_samples : SayOne SamplesSay
one_samples =
    one_field [] (ListMeans (ObjectMeans sample-says))
    (one_list (ObjectMeans sample-says) (one_object sample-says one_sample)) IsOfSamples

pub one_totals : SayOne TotalsSay
one_totals =
    one_field [] (MapMeans (slice_cmp nat_cmp) (λ text k. text ≡ k) (MeansSigned w64))
    (one_map (slice_cmp nat_cmp) (λ text k. text ≡ k) (MeansSigned w64) one_text_key
    (signed_decided w64).one_meaning) IsOfTotals

pub one_file : SayOne FileSays
one_file =
    one_field None (MeansSome MeansString) (one_some MeansString strings_decided.one_meaning)
    IsOfFile

pub one_template : SayOne TemplateSays
one_template =
    one_field None (MeansSome (ObjectMeans sample-says))
    (one_some (ObjectMeans sample-says) (one_object sample-says one_sample)) IsOfTemplate

pub one_origin : SayOne OriginSays
one_origin = one_either FileSays TemplateSays one_file one_template

pub one_batch : SayOne batch-says
one_batch =
    one_said batch-names batch-fields
    (one_both GradeSays (BothSay SamplesSay (BothSay TotalsSay OriginSays)) one_grade
    (one_both SamplesSay (BothSay TotalsSay OriginSays) one_samples
    (one_both TotalsSay OriginSays one_totals one_origin)))

-- ---- what is written

abbrev pub GradeTrees : ℤ → Members → Type 0
GradeTrees = IsFieldTree (pos 0) (IsEnumTree grade-names) (codes "grade")

abbrev pub SamplesTrees : List Sample-Value → Members → Type 0
SamplesTrees = IsFieldTree [] (IsListTree (IsObjectTree sample-trees)) (codes "samples")

abbrev pub TotalsTrees : List ((List ℕ) × ℤ) → Members → Type 0
TotalsTrees =
    IsFieldTree [] (IsMapTree (λ k. k) (λ z json. json ≡ long_signed_tree z)) (codes "totals")

abbrev pub FileTrees : List ℕ → Members → Type 0
FileTrees = IsMemberTree (λ s json. json ≡ string s) (codes "file")

abbrev pub TemplateTrees : Sample-Value → Members → Type 0
TemplateTrees = IsMemberTree (IsObjectTree sample-trees) (codes "templateSample")

abbrev pub OriginTrees : Option Origin-Value → Members → Type 0
OriginTrees = OneofTrees (EitherTrees FileTrees TemplateTrees)

-- the members that are written
abbrev pub batch-trees : Batch-Value → Members → Type 0
batch-trees = BothTrees GradeTrees (BothTrees SamplesTrees (BothTrees TotalsTrees OriginTrees))

-- ---- what is read back

pub grade-agree : NamesAgree grade-names
grade-agree = names_agree grade-names refl

pub grade-texts : AreTexts grade-names
grade-texts = names_are_texts grade-names refl

abbrev pub IsGradeInRange : ℤ → Type 0
IsGradeInRange = IsInRangeUnless (pos 0) (FitsSigned w32)

abbrev pub AreSamplesInRange : List Sample-Value → Type 0
AreSamplesInRange = IsInRangeUnless [] (AllByRecursion IsSampleInRange)

-- the keys ascend and are UTF-8, and each value has 64 bits
abbrev pub AreTotalsInRange : List ((List ℕ) × ℤ) → Type 0
AreTotalsInRange = IsInRangeUnless [] (IsMapInRange (slice_cmp nat_cmp) IsUtf8 (FitsSigned w64))

abbrev pub IsFileInRange : List ℕ → Type 0
IsFileInRange = IsUtf8

abbrev pub IsTemplateInRange : Sample-Value → Type 0
IsTemplateInRange = IsSampleInRange

abbrev pub IsOriginInRange : Option Origin-Value → Type 0
IsOriginInRange = IsOneofInRange (IsEitherInRange IsFileInRange IsTemplateInRange)

abbrev pub IsBatchInRange : Batch-Value → Type 0
IsBatchInRange =
    AreBoth IsGradeInRange (AreBoth AreSamplesInRange (AreBoth AreTotalsInRange IsOriginInRange))

pub grade-back : PartComesBack grade-field-names GradeSays GradeTrees IsGradeInRange
grade-back =
    field_back (MeansEnum grade-names) (IsEnumTree grade-names) (codes "grade") (codes "grade")
    (FitsSigned w32) (enum_comes_back grade-names grade-agree grade-texts) (pos 0)

pub samples-back : PartComesBack samples-names SamplesSay SamplesTrees AreSamplesInRange
samples-back =
    field_back (ListMeans (ObjectMeans sample-says)) (IsListTree (IsObjectTree sample-trees))
    (codes "samples") (codes "samples") (AllByRecursion IsSampleInRange)
    (all_back (ObjectMeans sample-says) (IsObjectTree sample-trees) IsSampleInRange sample-back) []

pub totals-back : PartComesBack totals-names TotalsSay TotalsTrees AreTotalsInRange
totals-back =
    field_back (MapMeans (slice_cmp nat_cmp) (λ text k. text ≡ k) (MeansSigned w64))
    (IsMapTree (λ k. k) (λ z json. json ≡ long_signed_tree z)) (codes "totals") (codes "totals")
    (IsMapInRange (slice_cmp nat_cmp) IsUtf8 (FitsSigned w64))
    (entries_back (slice_cmp nat_cmp) nat_list_cmp_total (λ text k. text ≡ k) (λ k. k)
    (MeansSigned w64) (λ z json. json ≡ long_signed_tree z) IsUtf8 (FitsSigned w64) text_key
    long_signed_back) []

pub file-back : ChoiceComesBack file-names FileSays FileTrees IsFileInRange
file-back =
    variant_back MeansString (λ s json. json ≡ string s) (codes "file") (codes "file") IsUtf8
    text_back

pub template-back : ChoiceComesBack template-names TemplateSays TemplateTrees IsTemplateInRange
template-back =
    variant_back (ObjectMeans sample-says) (IsObjectTree sample-trees) (codes "template_sample")
    (codes "templateSample") IsSampleInRange sample-back

pub origin-back : PartComesBack origin-names OriginSays OriginTrees IsOriginInRange
origin-back =
    oneof_back origin-names OriginSays (EitherTrees FileTrees TemplateTrees)
    (IsEitherInRange IsFileInRange IsTemplateInRange)
    (either_back file-names template-names FileSays TemplateSays FileTrees TemplateTrees
    IsFileInRange IsTemplateInRange file-back template-back)

pub batch-back : (v : Batch-Value) → IsBatchInRange v
    → ComesBack (ObjectMeans batch-says) (IsObjectTree batch-trees) v
batch-back =
    message_back batch-names batch-fields batch-trees IsBatchInRange refl
    (both_back grade-field-names (samples-names ++ (totals-names ++ origin-names)) GradeSays
    (BothSay SamplesSay (BothSay TotalsSay OriginSays)) GradeTrees
    (BothTrees SamplesTrees (BothTrees TotalsTrees OriginTrees)) IsGradeInRange
    (AreBoth AreSamplesInRange (AreBoth AreTotalsInRange IsOriginInRange)) grade-back
    (both_back samples-names (totals-names ++ origin-names) SamplesSay
    (BothSay TotalsSay OriginSays) SamplesTrees (BothTrees TotalsTrees OriginTrees)
    AreSamplesInRange (AreBoth AreTotalsInRange IsOriginInRange) samples-back
    (both_back totals-names origin-names TotalsSay OriginSays TotalsTrees OriginTrees
    AreTotalsInRange IsOriginInRange totals-back origin-back)))

-- what is written of a value is read as it
abbrev pub BatchReadsBack : Type 0
BatchReadsBack =
    (v : Batch-Value) (json : Json) → IsBatchInRange v → IsObjectTree batch-trees v json
    → IsReadAs (ObjectMeans batch-says) v json

-- and so is its text, at three levels
abbrev pub BatchIsRead : Type 0
BatchIsRead =
    (v : Batch-Value) (json : Json) → IsBatchInRange v → IsObjectTree batch-trees v json
    → SpellsWithin 3 (ObjectMeans batch-says) (written json) v
