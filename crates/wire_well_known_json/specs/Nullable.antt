-- Fields of which `null` is a value, and lists and maps of such values.
use Rattle.std.proofs.Common.{◌≡◌, true, List, [], ◌∷◌, ◌++◌, ℕ, Option, Some, None, inl, inr, refl, sym, ap, ◌∙◌, subst, append-nil, append_assoc}
use Rattle.std.specs.BTreeMap.{insert_entry}
use Rattle.std.specs.Cmp.{IsTotalOrder}
use Rattle.std.specs.List.{AllByRecursion}
use Rattle.std.specs.List.Sorted.{IsStrictlySortedBy}
use Rattle.std.specs.Map.{keys_of}
use Rattle.std.specs.Prelude.{IsUtf8}
use Rattle.std.specs.declared.cmp.Ordering.{Ordering}
use Rattle.wire_json.specs.Json.{Json, null, array, object, Elements, no_element, element, Members, no_member, member, IsLawful, AreLawful, AreLawfulMembers}
use Rattle.wire_jsonfields.specs.Ascending.{IsAboveEach, above_before}
use Rattle.wire_jsonfields.specs.Back.{ComesBack}
use Rattle.wire_jsonfields.specs.Fields.{EachKnown, IsSomeTree, MeansSome}
use Rattle.wire_jsonfields.specs.KindsBack.{IsMapInRange, IsSomeInRange}
use Rattle.wire_jsonfields.specs.Lists.{AreTrees, EachMeans, IsListTree, ListMeans}
use Rattle.wire_jsonfields.specs.Maps.{AreEntryTrees, IsMapTree, IsNewKey, MapMeans, MembersPut}
use Rattle.wire_jsonfields.specs.MembersBack.{all_ascii, name_is_text, values_joined}
use Rattle.wire_jsonfields.specs.Messages.{IsFieldTree, members_joined}
use Rattle.wire_jsonfields.specs.Names.{IsOneOf, both_hold}
use Rattle.wire_jsonfields.specs.Objects.{AreValuesOf, IsNameOf}
use Rattle.wire_jsonfields.specs.Oneofs.{IsMemberTree}
use Rattle.wire_jsonfields.specs.OneValues.{IsOneValued, SayOne, one_some, one_values}
use Rattle.wire_jsonfields.specs.Parts.{ChoiceComesBack, IsInRangeUnless, PartComesBack}
use Rattle.wire_jsonfields.specs.PartsBack.{NoneNamed, PartBack, known_weaker}

-- of no member it is absent, and of one it is what that means; there are no two
abbrev pub ValuesAre : {V : Type 0} → (Json → V → Type 0) → List Json → Option V → Type 0
ValuesAre Means [] value = value ≡ None
ValuesAre Means (e ∷ []) value = MeansSome Means e value
ValuesAre Means (e ∷ f ∷ more) value = ⊥

-- what the members with a name of the field say of it, which `null` does not leave absent
abbrev pub NullableMeans : {V : Type 0} → (Json → V → Type 0) → (List ℕ → Type 0) → Members
    → Option V → Type 0
NullableMeans Means Named ms value =
    (values : List Json) × AreValuesOf Named ms values × ValuesAre Means values value

-- each tree that is written of a value is read as it, and may be `null`
abbrev pub TreesMean : {V : Type 0} → (Json → V → Type 0) → (V → Json → Type 0) → V → Type 0
TreesMean Means Tree v = (e : Json) → Tree v e → IsLawful e × Means e v

module _ {V : Type 0} (Means : Json → V → Type 0) where
  pub nullable_unsaid : (Named : List ℕ → Type 0) → NullableMeans Means Named no_member None
  nullable_unsaid Named = ([], refl, refl)

  one_of_values : IsOneValued Means → (values : List Json) (v w : Option V)
      → ValuesAre Means values v → ValuesAre Means values w → v ≡ w
  one_of_values one [] v w p q = p ∙ sym q
  one_of_values one (e ∷ []) v w p q = one_some Means one e v w p q
  one_of_values one (e ∷ f ∷ more) v w p q = absurd p

  pub one_nullable : IsOneValued Means → (Named : List ℕ → Type 0)
      → SayOne (NullableMeans Means Named)
  one_nullable one Named ms v w (xs, are, p) (ys, again, q) =
      let same = one_values Named ms xs ys are again in
      let P : List Json → Type 0 = λ l. ValuesAre Means l v in
      one_of_values one ys v w (subst P same p) q

-- ---- what is written of a field is read back

none_valued : (Named : List ℕ → Type 0) (ms : Members) → NoneNamed Named ms
    → AreValuesOf Named ms []
none_valued Named no_member h = refl
none_valued Named (member n e ms) h = inr (h.0, none_valued Named ms h.1)

only_name : (a b n : List ℕ) → IsNameOf a b n → IsOneOf ((a, b) ∷ []) n
only_name a b n h = inl h

module _ {V : Type 0} (Means : Json → V → Type 0) (Tree : V → Json → Type 0)
    (name json_name : List ℕ) where
  abbrev Named : List ℕ → Type 0
  Named = IsNameOf name json_name

  abbrev Own : List ℕ → Type 0
  Own = IsOneOf ((name, json_name) ∷ [])

  -- its own values, beside members of other names
  among : (before ms behind : Members) (values : List Json) → AreValuesOf Named ms values
      → NoneNamed Own before → NoneNamed Own behind
      → AreValuesOf Named (members_joined (members_joined before ms) behind) values
  among before ms behind values are none_before none_behind =
      let other : (l : Members) → NoneNamed Own l → AreValuesOf Named l [] = λ l none.
      none_valued Named l (known_weaker (λ n h p. h (only_name name json_name n p)) l none) in
      let P : List Json → Type 0 = λ l.
      AreValuesOf Named (members_joined (members_joined before ms) behind) l in
      subst P (append-nil values)
      (values_joined Named (members_joined before ms) behind values []
      (values_joined Named before ms [] values (other before none_before) are)
      (other behind none_behind))

  there : (v : V) → TreesMean Means Tree v → (ms : Members) → IsMemberTree Tree json_name v ms
      → IsUtf8 json_name → PartBack Own (NullableMeans Means Named) (Some v) ms
  there v back ms (e, t, is) utf8 =
      let b = back e t in
      record {
        lawful = subst AreLawfulMembers (sym is) (utf8, b.0, tt);
        own = subst (EachKnown Own) (sym is) (inl (inr refl), tt);
        says = λ before behind none_before none_behind.
            let P : Members → Type 0 = λ l. AreValuesOf Named l (e ∷ []) in (
              e ∷ [],
              among before ms behind (e ∷ [])
                  (subst P (sym is) (inl (inr refl, ([], refl, refl)))) none_before none_behind,
              b.1,
            );
      }

  absent : (ms : Members) → ms ≡ no_member → PartBack Own (NullableMeans Means Named) None ms
  absent ms is = record {
    lawful = subst AreLawfulMembers (sym is) tt;
    own = subst (EachKnown Own) (sym is) tt;
    says = λ before behind none_before none_behind.
        let P : Members → Type 0 = λ l. AreValuesOf Named l [] in
        ([], among before ms behind [] (subst P (sym is) refl) none_before none_behind, refl);
  }

  module _ (Range : V → Type 0) (back : (v : V) → Range v → TreesMean Means Tree v) where
    pub nullable_back : PartComesBack ((name, json_name) ∷ []) (NullableMeans Means Named)
        (IsFieldTree None (IsSomeTree Tree) json_name)
        (IsInRangeUnless None (IsSomeInRange Range))
    nullable_back apart v range ms tree =
        by_tree v tree range (name_is_text json_name (both_hold (all_ascii json_name) true apart).0)
      where
        by_tree : (v : Option V) → IsFieldTree None (IsSomeTree Tree) json_name v ms
            → IsInRangeUnless None (IsSomeInRange Range) v → IsUtf8 json_name
            → PartBack Own (NullableMeans Means Named) v ms
        by_tree None (inl (is, none)) range utf8 = absent ms none
        by_tree (Some v) (inl (is, none)) range utf8 = absurd cc
        by_tree None (inr (other, t)) range utf8 = absurd (other refl)
        by_tree (Some v) (inr (other, t)) range utf8 = there v (back v (range other)) ms t utf8

    pub nullable_variant_back : ChoiceComesBack ((name, json_name) ∷ [])
        (NullableMeans Means Named) (IsMemberTree Tree json_name) Range
    nullable_variant_back = record {
      none = λ ms none. (
        [],
        none_valued Named ms (known_weaker (λ n h p. h (only_name name json_name n p)) ms none),
        refl,
      );
      some = λ apart v range ms tree.
          let ascii = (both_hold (all_ascii json_name) true apart).0 in
          there v (back v range) ms tree (name_is_text json_name ascii);
    }

-- ---- lists

no_array_null : (es : Elements) (json : Json) → json ≡ array es → json ≡ null → ⊥
no_array_null es json is h = absurd cc

no_object_null : (ms : Members) (json : Json) → json ≡ object ms → json ≡ null → ⊥
no_object_null ms json is h = absurd cc

module _ {V : Type 0} (Means : Json → V → Type 0) (Tree : V → Json → Type 0) (Range : V → Type 0)
    (back : (v : V) → Range v → TreesMean Means Tree v) where
  each_back : (vs : List V) (es : Elements) → AllByRecursion Range vs → AreTrees Tree vs es
      → AreLawful es × EachMeans Means es vs
  each_back [] no_element h t = (tt, tt)
  each_back (v ∷ vs) (element e es) h t =
      let b = back v h.0 e t.0 in
      let (lawful, means) = each_back vs es h.1 t.1 in
      ((b.0, lawful), (b.1, means))
  each_back [] (element e es) h t = absurd t
  each_back (v ∷ vs) no_element h t = absurd t

  pub nullable_list_back : (vs : List V) → AllByRecursion Range vs
      → ComesBack (ListMeans Means) (IsListTree Tree) vs
  nullable_list_back vs h json (es, trees, is) =
      let (lawful, means) = each_back vs es h trees in
      record {
        lawful = subst IsLawful (sym is) lawful;
        means = subst (λ (j : Json). ListMeans Means j vs) (sym is) means;
        present = no_array_null es json is;
      }

-- ---- maps

module _ {K V : Type 0} (order : K → K → Ordering) (total : IsTotalOrder order) where
  -- an entry whose key is above all others is put behind them
  put_last : (m : List (K × V)) (k : K) (v : V) → IsAboveEach order total k m
      → insert_entry order m k v ≡ m ++ (k, v) ∷ []
  put_last [] k v h = refl
  put_last (e ∷ es) k v h = rw h.0 (ap (λ (l : List (K × V)). e ∷ l) (put_last es k v h.1))

  -- and its key is new
  new_key : (m : List (K × V)) (k : K) → IsAboveEach order total k m → IsNewKey order k m
  new_key [] k h = refl
  new_key (e ∷ es) k h = rw h.0 (new_key es k h.1)

module _ {K V : Type 0} (order : K → K → Ordering) (total : IsTotalOrder order)
    (Key : List ℕ → K → Type 0) (name : K → List ℕ) (Means : Json → V → Type 0)
    (Tree : V → Json → Type 0) (Keys : K → Type 0) (Range : V → Type 0)
    (key_back : (k : K) → Keys k → IsUtf8 (name k) × Key (name k) k)
    (back : (v : V) → Range v → TreesMean Means Tree v) where
  entries_put : (before es : List (K × V)) (ms : Members)
      → IsStrictlySortedBy order (keys_of (before ++ es))
      → AllByRecursion (λ e. Keys e.0 × Range e.1) es → AreEntryTrees name Tree es ms
      → AreLawfulMembers ms × MembersPut order Key Means ms before (before ++ es)
  entries_put before [] no_member s h t = (tt, append-nil before)
  entries_put before (e ∷ es) (member n j ms) s h t =
      let Sorted : List (K × V) → Type 0 = λ l. IsStrictlySortedBy order (keys_of l) in
      let sorted = subst Sorted (sym (append_assoc before (e ∷ []) es)) s in
      let (lawful, puts) = entries_put (before ++ e ∷ []) es ms sorted h.1 t.2 in
      let above = above_before order total before es e s in
      let b = back e.1 h.0.1 j t.1 in
      let key = key_back e.0 h.0.0 in
      let P : List (K × V) → List (K × V) → Type 0 = λ l m. MembersPut order Key Means ms l m in
      let put = subst (λ (l : List (K × V)). P l ((before ++ e ∷ []) ++ es))
      (sym (put_last order total before e.0 e.1 above)) puts in (
        (rw t.0 key.0, b.0, lawful),
        (
          e.0,
          e.1,
          rw t.0 key.1,
          b.1,
          new_key order total before e.0 above,
          subst (P (insert_entry order before e.0 e.1)) (append_assoc before (e ∷ []) es) put,
        ),
      )
  entries_put before [] (member n j ms) s h t = absurd t
  entries_put before (e ∷ es) no_member s h t = absurd t

  pub nullable_entries_back : (m : List (K × V)) → IsMapInRange order Keys Range m
      → ComesBack (MapMeans order Key Means) (IsMapTree name Tree) m
  nullable_entries_back m h json (ms, trees, is) =
      let (lawful, puts) = entries_put [] m ms h.0 h.1 trees in
      record {
        lawful = subst IsLawful (sym is) lawful;
        means = subst (λ (j : Json). MapMeans order Key Means j m) (sym is) puts;
        present = no_object_null ms json is;
      }
