-- Of the same bytes one value is read or one refusal told.
use Rattle.std.proofs.Common.{◌≡◌, ℕ, ◌≤◌, List, Some, refl, sym, ap, ◌∙◌, subst, arith}
use Rattle.wire_json.specs.declared.kind.Kind.TheVariants as kinds
use Rattle.wire_json.specs.Json.{Json, null, boolean, number, string, array, object, Elements, Members, depth}
use Rattle.wire_json.specs.Kind.{kind_begun}
use Rattle.wire_json.specs.Reading.{ReadsValue}
use Rattle.wire_json.proofs.Beside.{no_value_beside_fault_lemma}
use Rattle.wire_json.proofs.OneFault.{one_value_fault_lemma}
use Rattle.wire_json.proofs.OneReading.{one_value_lemma, reads_shape, shape, shape_begun}
use Rattle.wire_protojson.specs.declared.refusal.Reason.{Reason}
use Rattle.wire_protojson.specs.declared.refusal.Reason.TheVariants.{NoJson, NoValue}
use Rattle.wire_protojson.specs.Laws.{IsDecided}
use Rattle.wire_protojson.specs.Reads.{IsUnnested, NoScalarHere, no_json, is_array, is_object, ReadsMeaning, Refuses, no_scalar, no_meaning}

-- ---- scalars stand beside no refusal of a scalar

no_array_read : (json : Json) (old new : List ℕ) → ReadsValue json old new
    → kind_begun old ≡ Some kinds.Array → shape json ≡ 4
no_array_read json old new reads begun =
    sym (reads_shape json old new reads) ∙ ap shape_begun begun

no_object_read : (json : Json) (old new : List ℕ) → ReadsValue json old new
    → kind_begun old ≡ Some kinds.Object → shape json ≡ 5
no_object_read json old new reads begun =
    sym (reads_shape json old new reads) ∙ ap shape_begun begun

unnested_flat : (json : Json) (old new : List ℕ) → ReadsValue json old new → IsUnnested old
    → depth json ≤ 0
unnested_flat null old new reads unnested = omega arith
unnested_flat (boolean b) old new reads unnested = omega arith
unnested_flat (number text) old new reads unnested = omega arith
unnested_flat (string bytes) old new reads unnested = omega arith
unnested_flat (array es) old new (inside, opens, reads) unnested =
    absurd (unnested.no_array (ap kind_begun opens))
unnested_flat (object ms) old new (inside, opens, reads) unnested =
    absurd (unnested.no_object (ap kind_begun opens))

-- what no scalar is read as no tree is that means a value
one_no_scalar : (old : List ℕ) (r s : Reason) (x y : List ℕ) → NoScalarHere old r x
    → NoScalarHere old s y → (r ≡ s) × (x ≡ y)
one_no_scalar old r s x y (no_json k left unnested f) (no_json m here again g) =
    let same = one_value_fault_lemma 0 old k m left here f g in
    (ap NoJson same.0, same.1)
one_no_scalar old r s x y (no_json k left unnested f) (is_array begun) =
    absurd (unnested.no_array begun)
one_no_scalar old r s x y (no_json k left unnested f) (is_object begun) =
    absurd (unnested.no_object begun)
one_no_scalar old r s x y (is_array begun) (no_json k left unnested f) =
    absurd (unnested.no_array begun)
one_no_scalar old r s x y (is_array begun) (is_array again) = (refl, refl)
one_no_scalar old r s x y (is_array begun) (is_object again) = (refl, refl)
one_no_scalar old r s x y (is_object begun) (no_json k left unnested f) =
    absurd (unnested.no_object begun)
one_no_scalar old r s x y (is_object begun) (is_array again) = (refl, refl)
one_no_scalar old r s x y (is_object begun) (is_object again) = (refl, refl)

module _ {V : Type 0} (Means : Json → V → Type 0)
    (one_meaning : (json : Json) (v w : V) → Means json v → Means json w → v ≡ w)
    (no_array : (es : Elements) (v : V) → Means (array es) v → ⊥)
    (no_object : (ms : Members) (v : V) → Means (object ms) v → ⊥) where
  nested : (json : Json) (v : V) → Means json v → ((shape json ≡ 4) → ⊥) × ((shape json ≡ 5) → ⊥)
  nested null v m = (λ h. omega (arith, h), λ h. omega (arith, h))
  nested (boolean b) v m = (λ h. omega (arith, h), λ h. omega (arith, h))
  nested (number text) v m = (λ h. omega (arith, h), λ h. omega (arith, h))
  nested (string bytes) v m = (λ h. omega (arith, h), λ h. omega (arith, h))
  nested (array es) v m = absurd (no_array es v m)
  nested (object ms) v m = absurd (no_object ms v m)

  one_value : (old : List ℕ) (v w : V) (x y : List ℕ) → ReadsMeaning Means old v x
      → ReadsMeaning Means old w y → (v ≡ w) × (x ≡ y)
  one_value old v w x y (j, reads, m) (k, again, n) =
      let same = one_value_lemma j k old x y reads again in
      let P : Json → Type 0 = λ t. Means t w in
      (one_meaning j v w m (subst P (sym same.0) n), same.1)

  scalar_read : (old : List ℕ) (json : Json) (x : List ℕ) (v : V) → ReadsValue json old x
      → Means json v → (r : Reason) (y : List ℕ) → NoScalarHere old r y → ⊥
  scalar_read old json x v reads m r y (no_json k left unnested f) =
      no_value_beside_fault_lemma 0 json old x k left reads (unnested_flat json old x reads unnested) f
  scalar_read old json x v reads m r y (is_array begun) =
      (nested json v m).0 (no_array_read json old x reads begun)
  scalar_read old json x v reads m r y (is_object begun) =
      (nested json v m).1 (no_object_read json old x reads begun)

  no_value_refused : (old : List ℕ) (v : V) (x : List ℕ) (r : Reason) (y : List ℕ)
      → ReadsMeaning Means old v x → Refuses Means old r y → ⊥
  no_value_refused old v x r y (j, reads, m) (no_scalar s left f) =
      scalar_read old j x v reads m s left f
  no_value_refused old v x r y (j, reads, m) (no_meaning k new again none) =
      let same = one_value_lemma j k old x new reads again in
      let P : Json → Type 0 = λ t. Means t v in
      none v (subst P same.0 m)

  beside : (old : List ℕ) (json : Json) (new : List ℕ) → ReadsValue json old new → (r : Reason)
      (y : List ℕ) → NoScalarHere old r y → (r ≡ NoValue) × (y ≡ old)
  beside old json new reads r y (no_json k left unnested f) =
      absurd (no_value_beside_fault_lemma 0 json old new k left reads
      (unnested_flat json old new reads unnested) f)
  beside old json new reads r y (is_array begun) = (refl, refl)
  beside old json new reads r y (is_object begun) = (refl, refl)

  one_refusal : (old : List ℕ) (r s : Reason) (x y : List ℕ) → Refuses Means old r x
      → Refuses Means old s y → (r ≡ s) × (x ≡ y)
  one_refusal old r s x y (no_scalar a left f) (no_scalar b here g) =
      one_no_scalar old a b left here f g
  one_refusal old r s x y (no_scalar a left f) (no_meaning json new reads none) =
      beside old json new reads a left f
  one_refusal old r s x y (no_meaning json new reads none) (no_scalar b here g) =
      let same = beside old json new reads b here g in
      (sym same.0, sym same.1)
  one_refusal old r s x y (no_meaning json new reads none) (no_meaning k left again more) =
      (refl, refl)

  pub decided : IsDecided Means
  decided = record {
    one_meaning = one_meaning;
    one_value = one_value;
    one_refusal = one_refusal;
    no_value_refused = no_value_refused;
  }
