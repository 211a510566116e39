-- How many levels the texts of the two messages by hand have.
use Rattle.std.proofs.Common.{◌≡◌, ℕ, suc, ◌≤◌, List, [], ◌∷◌, Option, Some, None, inl, inr, refl, ap, ◌∙◌, arith}
use Rattle.std.specs.Float.{binary64, float_zero}
use Rattle.std.specs.List.{AllByRecursion}
use Rattle.std.specs.Prelude.{ℤ, pos, codes}
use Rattle.wire_json.specs.Json.{Json, string, object, Members, depth, members_depth}
use Rattle.wire_protojson.specs.Enums.{IsEnumTree}
use Rattle.wire_protojson.specs.Trees.{IsFloatTree, long_signed_tree}
use Rattle.wire_jsonfields.specs.Batch.{Batch-Value, Origin-Value, OriginTrees, batch-trees, grade-names}
use Rattle.wire_jsonfields.specs.Fields.{IsSomeTree}
use Rattle.wire_jsonfields.specs.Flat.{flat_enum, flat_float, flat_tree}
use Rattle.wire_jsonfields.specs.Levels.{NestsWithin}
use Rattle.wire_jsonfields.specs.Lists.{IsListTree}
use Rattle.wire_jsonfields.specs.Maps.{IsMapTree}
use Rattle.wire_jsonfields.specs.Messages.{IsObjectTree, members_joined}
use Rattle.wire_jsonfields.specs.Sample.{Sample-Value, sample-trees}
use Rattle.wire_jsonfields.proofs.Depths.{field_within, flat_within, joined_within, list_within, map_within, member_within, none_within, some_within}

abbrev StringTree : List ℕ → Json → Type 0
StringTree s json = json ≡ string s

abbrev LongTree : ℤ → Json → Type 0
LongTree z json = json ≡ long_signed_tree z

pub sample_within : (v : Sample-Value) → NestsWithin 1 (IsObjectTree sample-trees) v
sample_within v json (all, (name, rest, name_tree, (value, count, value_tree, count_tree, joined), is), tree) =
    let a = field_within StringTree (codes "name") 0 v.0 name
    (flat_within StringTree (λ s. flat_tree (string s) refl) 0 v.0) [] name_tree in
    let b = field_within (IsFloatTree binary64) (codes "value") 0 v.1.0 value
    (flat_within (IsFloatTree binary64) (flat_float binary64) 0 v.1.0) float_zero value_tree in
    let c = field_within (IsSomeTree LongTree) (codes "sampleCount") 0 v.1.1 count
    (some_within LongTree 0 (flat_within LongTree (λ z. flat_tree (long_signed_tree z) refl) 0)
    v.1.1) None count_tree in
    let behind = joined_within 0 value count b c in
    let deep = joined_within 0 name (members_joined value count) a behind in
    let same : depth json ≡ suc (members_depth (members_joined name (members_joined value count))) =
    ap depth (tree ∙ ap object (is ∙ ap (members_joined name) joined)) in
    omega (arith, deep, same)

abbrev SampleTree : Sample-Value → Json → Type 0
SampleTree = IsObjectTree sample-trees

each_sample : (vs : List Sample-Value) → AllByRecursion (NestsWithin 1 SampleTree) vs
each_sample [] = tt
each_sample (v ∷ vs) = (sample_within v, each_sample vs)

each_total : (es : List ((List ℕ) × ℤ)) → AllByRecursion (λ e. NestsWithin 0 LongTree e.1) es
each_total [] = tt
each_total (e ∷ es) =
    (flat_within LongTree (λ z. flat_tree (long_signed_tree z) refl) 0 e.1, each_total es)

more_levels : {V : Type 0} (Tree : V → Json → Type 0) (v : V) (few many : ℕ) → few ≤ many
    → NestsWithin few Tree v → NestsWithin many Tree v
more_levels Tree v few many up h json is =
    let deep = h json is in
    omega (arith, deep, up)

origin_within : (v : Option Origin-Value) (ms : Members) → OriginTrees v ms → members_depth ms ≤ 2
origin_within None ms tree = none_within 2 ms tree
origin_within (Some (inl file)) ms tree =
    member_within StringTree (codes "file") 2 file ms
    (flat_within StringTree (λ s. flat_tree (string s) refl) 2 file) tree
origin_within (Some (inr sample)) ms tree =
    member_within SampleTree (codes "templateSample") 2 sample ms
    (more_levels SampleTree sample 1 2 (omega arith) (sample_within sample)) tree

pub batch_within : (v : Batch-Value) → NestsWithin 3 (IsObjectTree batch-trees) v
batch_within v json (all, (grade, rest, grade_tree, (samples, others, samples_tree, (totals, origin, totals_tree, origin_tree, last), joined), is), tree) =
    let GradeTree = IsEnumTree grade-names in
    let MapTree = IsMapTree (λ k. k) LongTree in
    let a = field_within GradeTree (codes "grade") 2 v.0 grade
    (flat_within GradeTree (flat_enum grade-names) 2 v.0) (pos 0) grade_tree in
    let b = field_within (IsListTree SampleTree) (codes "samples") 2 v.1.0 samples
    (list_within SampleTree 1 v.1.0 (each_sample v.1.0)) [] samples_tree in
    let c = field_within MapTree (codes "totals") 2 v.1.1.0 totals
    (more_levels MapTree v.1.1.0 1 2 (omega arith)
    (map_within LongTree 0 (λ k. k) v.1.1.0 (each_total v.1.1.0))) [] totals_tree in
    let d = origin_within v.1.1.1 origin origin_tree in
    let two = members_joined totals origin in
    let three = members_joined samples two in
    let deep = joined_within 2 grade three a
    (joined_within 2 samples two b (joined_within 2 totals origin c d)) in
    let same : depth json ≡ suc (members_depth (members_joined grade three)) =
    ap depth (tree ∙ ap object (is ∙ ap (members_joined grade) (joined ∙ ap (members_joined samples) last))) in
    omega (arith, deep, same)
