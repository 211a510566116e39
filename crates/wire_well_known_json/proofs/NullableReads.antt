-- What is read of a field of which `null` is a value.
use Rattle.std.proofs.Common.{◌≡◌, ℕ, ◌≤◌, List, [], ◌∷◌, length, drop, Option, Some, None, inl, inr, refl, sym, ap, ◌∙◌, subst, arith}
use Rattle.std.specs.List.{AllByRecursion}
use Rattle.wire_json.specs.Json.{Json, Members, no_member, member, depth, members_depth}
use Rattle.wire_json.proofs.OneReading.{one_value_lemma}
use Rattle.wire_jsonfields.specs.Levels.{NothingMeant, ReadsWithin}
use Rattle.wire_jsonfields.specs.Objects.{AreSeveral, AreValuesOf, IsNameOf, IsOnlyPlace}
use Rattle.wire_jsonfields.specs.OneValues.{one_values}
use Rattle.wire_well_known_json.specs.Nullable.{NullableMeans, ValuesAre, nullable_back, nullable_list_back, nullable_unsaid, one_nullable}
use Rattle.wire_well_known_json.specs.OnePlain.{one_plain}
use Rattle.wire_well_known_json.specs.StructKinds.{IsAnyValue, nullable_value_back}
use Rattle.wire_well_known_json.specs.StructLaws.{ListsOfValuesComeBack, ValueFieldsAreParts}
use Rattle.wire_well_known_json.specs.Structs.{Plain, IsValueTree, MeansValue}

same_first : (e f : Json) (xs ys : List Json) → e ∷ xs ≡ f ∷ ys → e ≡ f
same_first e f xs ys h = cc

value_depth : (Named : List ℕ → Type 0) (ms : Members) (values : List Json) (e : Json)
    (rest : List Json) → AreValuesOf Named ms values → values ≡ e ∷ rest
    → depth e ≤ members_depth ms
value_depth Named no_member values e rest p is = absurd (none (sym p ∙ is))
  where
    none : [] ≡ e ∷ rest → ⊥
    none h = absurd cc
value_depth Named (member name j ms) values e rest (inl (mine, (more, begins, p))) is =
    let same : depth j ≡ depth e = ap depth (same_first j e more rest (sym begins ∙ is)) in
    omega (arith, same)
value_depth Named (member name j ms) values e rest (inr (other, p)) is =
    let deep = value_depth Named ms values e rest p is in
    omega (arith, deep)

module _ {V : Type 0} (Means : Json → V → Type 0) (Named : List ℕ → Type 0) (text : List ℕ)
    (ms : Members) where
  pub several_said : AreSeveral Named ms → (o : Option V) → NullableMeans Means Named ms o → ⊥
  several_said several o (values, are, means) = two values (several values are) means
    where
      two : (values : List Json) → 2 ≤ length values → ValuesAre Means values o → ⊥
      two [] long m = omega (arith, long)
      two (e ∷ []) long m = omega (arith, long)
      two (e ∷ f ∷ more) long m = m

  module _ (place : ℕ) (only : IsOnlyPlace Named text ms (Some place)) (levels : ℕ) where
    pub value_said : (v : V) (new : List ℕ) → ReadsWithin levels Means (drop place text) v new
        → NullableMeans Means Named ms (Some v)
    value_said v new (json, reads, fits, m) =
        let same = one_value_lemma json only.0 (drop place text) new only.2.0 reads only.2.1 in
        (only.0 ∷ [], only.1, subst (λ (j : Json). Means j v) same.0 m)

    pub no_value_read : NothingMeant levels Means (drop place text) → members_depth ms ≤ levels
        → (o : Option V) → NullableMeans Means Named ms o → ⊥
    no_value_read nothing fits o (values, are, means) =
        let same = one_values Named ms values (only.0 ∷ []) are only.1 in
        let deep = value_depth Named ms (only.0 ∷ []) only.0 [] only.1 refl in
        by_value o (omega (arith, deep, fits))
        (subst (λ (l : List Json). ValuesAre Means l o) same means)
      where
        by_value : (o : Option V) → depth only.0 ≤ levels → ValuesAre Means (only.0 ∷ []) o → ⊥
        by_value None fits m = m
        by_value (Some v) fits m = nothing v only.2.0 (only.0, only.2.1, fits, m)

-- ---- of values

pub value_fields_are_parts : ValueFieldsAreParts
value_fields_are_parts name json_name = record {
  back = nullable_back MeansValue IsValueTree name json_name IsAnyValue nullable_value_back;
  one = one_nullable MeansValue one_plain (IsNameOf name json_name);
  unsaid = nullable_unsaid MeansValue (IsNameOf name json_name);
}

each_any : (vs : List Plain) → AllByRecursion IsAnyValue vs
each_any [] = tt
each_any (v ∷ vs) = (tt, each_any vs)

pub lists_of_values_come_back : ListsOfValuesComeBack
lists_of_values_come_back vs =
    nullable_list_back MeansValue IsValueTree IsAnyValue nullable_value_back vs (each_any vs)
