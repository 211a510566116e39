-- What is read of a field.
use Rattle.std.proofs.Common.{◌≡◌, ◌≢◌, ℕ, ◌≤◌, List, [], ◌∷◌, length, drop, Option, Some, None, Result, Ok, Err, inl, inr, refl, sym, ap, ◌∙◌, subst, arith}
use Rattle.std.specs.Prelude.{IfErr, IfOk, codes}
use Rattle.wire_json.specs.declared.kind.Kind.TheVariants as kinds
use Rattle.wire_json.specs.Json.{Json, null, boolean, number, string, array, object, Members, no_member, member, depth, members_depth}
use Rattle.wire_json.specs.Kind.{kind_begun}
use Rattle.wire_json.specs.Reading.{ReadsValue}
use Rattle.wire_json.proofs.OneReading.{one_value_lemma}
use Rattle.wire_json.proofs.Scalars.{word_parts}
use Rattle.wire_protojson.specs.declared.refusal.ReadError.{ReadError}
use Rattle.wire_protojson.specs.declared.refusal.ReadError.TheVariants.{Refused, OutOfMemory}
use Rattle.wire_jsonfields.specs.MembersBack.{unless_null}
use Rattle.wire_jsonfields.specs.Fields.{FieldMeans, MeansSome, MeansUnlessNull, ValuesMean}
use Rattle.wire_jsonfields.specs.Levels.{NothingMeant, ReadsWithin}
use Rattle.wire_protojson.specs.Laws.{IsDecided}
use Rattle.wire_jsonfields.specs.OneValues.{one_values}
use Rattle.wire_jsonfields.specs.Objects.{AreSeveral, AreValuesOf, IsOnlyPlace}
use Rattle.wire_protojson.specs.declared.refusal.Reason.TheVariants.{NoValue}
use Rattle.wire_protojson.specs.Reads.{ReadsMeaning, Refuses, RefusedAt, UnlessNoMemory, is_array, is_object, no_scalar}

module _ {V : Type 0} (Means : Json → V → Type 0) (text old : List ℕ) (levels : ℕ) where
  -- what is refused means nothing
  pub refused_nothing : IsDecided Means → (e : ReadError)
      → UnlessNoMemory e (λ refusal. RefusedAt text refusal (Refuses Means old))
      → e ≢ OutOfMemory → NothingMeant levels Means old
  refused_nothing d (Refused refusal) h other = λ v new read.
      d.no_value_refused old v new refusal.reason (drop refusal.at text)
      (read.0, read.1, read.3) h
  refused_nothing d OutOfMemory h other = absurd (other refl)

  pub nothing_of : IsDecided Means → {T : Type 0} (r : Result T ReadError)
      → IfErr r (λ e. UnlessNoMemory e (λ refusal. RefusedAt text refusal (Refuses Means old)))
      → IfErr r (λ e. e ≢ OutOfMemory → NothingMeant levels Means old)
  nothing_of d (Ok x) h = tt
  nothing_of d (Err e) h = refused_nothing d e h

  -- what means nothing means no value that may be absent
  pub none_some : NothingMeant levels Means old → NothingMeant levels (MeansSome Means) old
  none_some none = λ v new read. by_value v new read
    where
      by_value : (v : Option V) (new : List ℕ) → ReadsWithin levels (MeansSome Means) old v new → ⊥
      by_value None new read = read.3
      by_value (Some v) new read = none v new read

  -- what means a scalar has no levels
  flat : IsDecided Means → (json : Json) (v : V) (new : List ℕ) → ReadsValue json old new
      → Means json v → depth json ≤ levels
  flat d null v new reads m = omega arith
  flat d (boolean b) v new reads m = omega arith
  flat d (number t) v new reads m = omega arith
  flat d (string bytes) v new reads m = omega arith
  flat d (array es) v new reads m =
      absurd (d.no_value_refused old v new NoValue old (array es, reads, m)
      (no_scalar NoValue old (is_array (ap kind_begun reads.1))))
  flat d (object ms) v new reads m =
      absurd (d.no_value_refused old v new NoValue old (object ms, reads, m)
      (no_scalar NoValue old (is_object (ap kind_begun reads.1))))

  pub scalar_within : IsDecided Means → (v : V) (new : List ℕ) → ReadsMeaning Means old v new
      → ReadsWithin levels Means old v new
  scalar_within d v new (json, reads, m) = (json, reads, flat d json v new reads m, m)

  pub within_of : IsDecided Means → {T : Type 0} (value : T → V) (rest : T → List ℕ)
      (r : Result T ReadError) → IfOk r (λ x. ReadsMeaning Means old (value x) (rest x))
      → IfOk r (λ x. ReadsWithin levels Means old (value x) (rest x))
  within_of d value rest (Ok x) h = scalar_within d (value x) (rest x) h
  within_of d value rest (Err e) h = tt

-- ---- the values of a name

same_first : (e f : Json) (xs ys : List Json) → e ∷ xs ≡ f ∷ ys → e ≡ f
same_first e f xs ys h = cc

value_depth : (Named : List ℕ → Type 0) (ms : Members) (values : List Json) (e : Json)
    (rest : List Json) → AreValuesOf Named ms values → values ≡ e ∷ rest
    → depth e ≤ members_depth ms
value_depth Named no_member values e rest p is = absurd (none (sym p ∙ is))
  where
    none : [] ≡ e ∷ rest → ⊥
    none h = absurd cc
value_depth Named (member name j ms) values e rest (inl (mine, (more, begins, p))) is =
    let same : depth j ≡ depth e = ap depth (same_first j e more rest (sym begins ∙ is)) in
    omega (arith, same)
value_depth Named (member name j ms) values e rest (inr (other, p)) is =
    let deep = value_depth Named ms values e rest p is in
    omega (arith, deep)

null_begun : (e : Json) (old new : List ℕ) → ReadsValue e old new → e ≡ null
    → kind_begun old ≡ Some kinds.Null
null_begun e old new reads is =
    let P : Json → Type 0 = λ j. ReadsValue j old new in
    ap kind_begun (word_parts (codes "null") old new (subst P is reads))

module _ {V : Type 0} (default : V) (Means : Json → V → Type 0) where
  no_null : (e : Json) (v : V) → (e ≡ null → ⊥) → MeansUnlessNull default Means e v → Means e v
  no_null null v other m = absurd (other refl)
  no_null (boolean b) v other m = m
  no_null (number text) v other m = m
  no_null (string bytes) v other m = m
  no_null (array es) v other m = m
  no_null (object ms) v other m = m

  module _ (Named : List ℕ → Type 0) (text : List ℕ) (ms : Members) where
    pub several_nothing : AreSeveral Named ms → (v : V) → FieldMeans default Means Named ms v → ⊥
    several_nothing several v (values, are, means) = two values (several values are) means
      where
        two : (values : List Json) → 2 ≤ length values → ValuesMean default Means values v → ⊥
        two [] long m = omega (arith, long)
        two (e ∷ []) long m = omega (arith, long)
        two (e ∷ f ∷ more) long m = m

    module _ (place : ℕ) (only : IsOnlyPlace Named text ms (Some place))
        (other : kind_begun (drop place text) ≡ Some kinds.Null → ⊥) where
      is_not_null : only.0 ≡ null → ⊥
      is_not_null is = other (null_begun only.0 (drop place text) only.2.0 only.2.1 is)

      pub found_means : (levels : ℕ) (v : V) (new : List ℕ)
          → ReadsWithin levels Means (drop place text) v new → FieldMeans default Means Named ms v
      found_means levels v new (json, reads, fits, m) =
          let same = one_value_lemma json only.0 (drop place text) new only.2.0 reads only.2.1 in
          let P : Json → Type 0 = λ j. Means j v in
          (only.0 ∷ [], only.1, unless_null default Means only.0 v is_not_null (subst P same.0 m))

      pub found_nothing : (levels : ℕ) → NothingMeant levels Means (drop place text)
          → members_depth ms ≤ levels → (v : V) → FieldMeans default Means Named ms v → ⊥
      found_nothing levels nothing fits v (values, are, means) =
          let same = one_values Named ms values (only.0 ∷ []) are only.1 in
          let P : List Json → Type 0 = λ l. ValuesMean default Means l v in
          let deep = value_depth Named ms (only.0 ∷ []) only.0 [] only.1 refl in
          nothing v only.2.0 (
            only.0,
            only.2.1,
            omega (arith, deep, fits),
            no_null only.0 v is_not_null (subst P same means),
          )
