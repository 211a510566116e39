-- A tree means one value at most.
use Rattle.std.proofs.Common.{◌≡◌, ℕ, List, [], ◌∷◌, Some, None, inl, inr, refl, sym, ap, ◌∙◌, subst}
use Rattle.std.specs.BTreeMap.{insert_entry}
use Rattle.std.specs.declared.cmp.Ordering.{Ordering}
use Rattle.wire_json.specs.Json.{Json, null, boolean, number, string, array, object, Elements, no_element, element, Members, no_member, member}
use Rattle.wire_jsonfields.specs.Fields.{FieldMeans, MeansSome, MeansUnlessNull, ValuesMean}
use Rattle.wire_jsonfields.specs.Lists.{EachMeans, ListMeans}
use Rattle.wire_jsonfields.specs.Maps.{MapMeans, MembersPut}
use Rattle.wire_jsonfields.specs.Messages.{ObjectMeans}
use Rattle.wire_jsonfields.specs.Objects.{AreValuesOf}

abbrev pub IsOneValued : {V : Type 0} → (Json → V → Type 0) → Type 0
IsOneValued {V} Means = (json : Json) (v w : V) → Means json v → Means json w → v ≡ w

-- the same of what members say
abbrev pub SayOne : {V : Type 0} → (Members → V → Type 0) → Type 0
SayOne {V} Say = (ms : Members) (v w : V) → Say ms v → Say ms w → v ≡ w

module _ {V : Type 0} (Means : Json → V → Type 0) (one : IsOneValued Means) where
  pub one_some : IsOneValued (MeansSome Means)
  one_some json None o p q = absurd p
  one_some json (Some v) None p q = absurd q
  one_some json (Some v) (Some w) p q = ap Some (one json v w p q)

  one_each : (es : Elements) (vs ws : List V) → EachMeans Means es vs → EachMeans Means es ws
      → vs ≡ ws
  one_each no_element [] [] p q = refl
  one_each no_element [] (w ∷ ws) p q = absurd q
  one_each no_element (v ∷ vs) ws p q = absurd p
  one_each (element e es) [] ws p q = absurd p
  one_each (element e es) (v ∷ vs) [] p q = absurd q
  one_each (element e es) (v ∷ vs) (w ∷ ws) p q =
      ap (λ x. x ∷ vs) (one e v w p.0 q.0) ∙ ap (λ (l : List V). w ∷ l) (one_each es vs ws p.1 q.1)

  pub one_list : IsOneValued (ListMeans Means)
  one_list (array es) vs ws p q = one_each es vs ws p q
  one_list null vs ws p q = absurd p
  one_list (boolean b) vs ws p q = absurd p
  one_list (number text) vs ws p q = absurd p
  one_list (string bytes) vs ws p q = absurd p
  one_list (object ms) vs ws p q = absurd p

  one_unless_null : (default : V) → IsOneValued (MeansUnlessNull default Means)
  one_unless_null default null v w p q = p ∙ sym q
  one_unless_null default (boolean b) v w p q = one (boolean b) v w p q
  one_unless_null default (number text) v w p q = one (number text) v w p q
  one_unless_null default (string bytes) v w p q = one (string bytes) v w p q
  one_unless_null default (array es) v w p q = one (array es) v w p q
  one_unless_null default (object ms) v w p q = one (object ms) v w p q

  one_of_values : (default : V) (values : List Json) (v w : V) → ValuesMean default Means values v
      → ValuesMean default Means values w → v ≡ w
  one_of_values default [] v w p q = p ∙ sym q
  one_of_values default (e ∷ []) v w p q = one_unless_null default e v w p q
  one_of_values default (e ∷ f ∷ more) v w p q = absurd p

pub one_object : {V : Type 0} (Say : Members → V → Type 0) → SayOne Say
    → IsOneValued (ObjectMeans Say)
one_object Say one (object ms) v w p q = one ms v w p q
one_object Say one null v w p q = absurd p
one_object Say one (boolean b) v w p q = absurd p
one_object Say one (number text) v w p q = absurd p
one_object Say one (string bytes) v w p q = absurd p
one_object Say one (array es) v w p q = absurd p

module _ {K V : Type 0} (order : K → K → Ordering) (Key : List ℕ → K → Type 0)
    (Means : Json → V → Type 0)
    (one_key : (text : List ℕ) (j k : K) → Key text j → Key text k → j ≡ k)
    (one : IsOneValued Means) where
  one_put : (ms : Members) (before m n : List (K × V)) → MembersPut order Key Means ms before m
      → MembersPut order Key Means ms before n → m ≡ n
  one_put no_member before m n p q = p ∙ sym q
  one_put (member name e ms) before m n (j, v, a, x, new, p) (k, w, b, y, again, q) =
      let P : K → V → Type 0 = λ c z.
      MembersPut order Key Means ms (insert_entry order before c z) n in
      let same = subst (λ c. P c w) (sym (one_key name j k a b)) q in
      one_put ms (insert_entry order before j v) m n p
      (subst (λ z. P j z) (sym (one e v w x y)) same)

  pub one_map : IsOneValued (MapMeans order Key Means)
  one_map =
      one_object (λ ms m. MembersPut order Key Means ms [] m)
      (λ ms m n p q. one_put ms [] m n p q)

-- the values of a name are the same ones
pub one_values : (Named : List ℕ → Type 0) (ms : Members) (xs ys : List Json)
    → AreValuesOf Named ms xs → AreValuesOf Named ms ys → xs ≡ ys
one_values Named no_member xs ys p q = p ∙ sym q
one_values Named (member name e ms) xs ys (inl (mine, (a, is, p))) (inl (again, (b, same, q))) =
    is ∙ ap (λ (l : List Json). e ∷ l) (one_values Named ms a b p q) ∙ sym same
one_values Named (member name e ms) xs ys (inl (mine, p)) (inr (other, q)) = absurd (other mine)
one_values Named (member name e ms) xs ys (inr (other, p)) (inl (mine, q)) = absurd (other mine)
one_values Named (member name e ms) xs ys (inr (other, p)) (inr (again, q)) =
    one_values Named ms xs ys p q

module _ {V : Type 0} (default : V) (Means : Json → V → Type 0) (one : IsOneValued Means)
    (Named : List ℕ → Type 0) where
  pub one_field : SayOne (FieldMeans default Means Named)
  one_field ms v w (xs, are, p) (ys, again, q) =
      let same = one_values Named ms xs ys are again in
      let P : List Json → Type 0 = λ l. ValuesMean default Means l v in
      one_of_values Means one default ys v w (subst P same p) q
