-- What is written of lists and maps is read as them.
use Rattle.std.proofs.Common.{◌≡◌, ℕ, List, [], ◌∷◌, ◌++◌, refl, sym, ap, subst, arith, ◌≤◌, append_assoc, append-nil}
use Rattle.std.specs.BTreeMap.{insert_entry}
use Rattle.std.specs.Cmp.{IsTotalOrder}
use Rattle.std.specs.List.Sorted.{IsStrictlySortedBy}
use Rattle.std.specs.Map.{keys_of}
use Rattle.std.specs.declared.cmp.Ordering.{Ordering}
use Rattle.wire_json.specs.Json.{Json, null, array, object, Elements, no_element, element, Members, no_member, member, depth, IsLawful, AreLawful, AreLawfulMembers}
use Rattle.wire_json.specs.Written.{written}
use Rattle.wire_json.proofs.OneReading.{one_reading_lemma}
use Rattle.wire_json.proofs.WrittenLaws.{written_spells_lemma}
use Rattle.wire_jsonfields.specs.Back.{ComesBack, EachComesBack, EntriesComeBack, IsBack, SpellsOneValue}
use Rattle.wire_jsonfields.specs.Levels.{IsReadFrom, SpellsWithin}
use Rattle.wire_jsonfields.specs.Lists.{AreTrees, EachMeans, IsListTree, ListMeans}
use Rattle.wire_jsonfields.specs.Maps.{AreEntryTrees, IsMapTree, IsNewKey, MapMeans, MembersPut}
use Rattle.wire_jsonfields.specs.OneValues.{IsOneValued}
use Rattle.wire_jsonfields.specs.Ascending.{IsAboveEach, above_before}

no_array_null : (es : Elements) (json : Json) → json ≡ array es → json ≡ null → ⊥
no_array_null es json is h = absurd cc

no_object_null : (ms : Members) (json : Json) → json ≡ object ms → json ≡ null → ⊥
no_object_null ms json is h = absurd cc

-- ---- lists

module _ {V : Type 0} (Means : Json → V → Type 0) (Tree : V → Json → Type 0) where
  each_back : (vs : List V) (es : Elements) → EachComesBack Means Tree vs → AreTrees Tree vs es
      → AreLawful es × EachMeans Means es vs
  each_back [] no_element h t = (tt, tt)
  each_back (v ∷ vs) (element e es) h t =
      let b = h.0 e t.0 in
      let (lawful, means) = each_back vs es h.1 t.1 in
      ((b.lawful, lawful), (b.means, means))
  each_back [] (element e es) h t = absurd t
  each_back (v ∷ vs) no_element h t = absurd t

  pub list_back : (vs : List V) → EachComesBack Means Tree vs
      → ComesBack (ListMeans Means) (IsListTree Tree) vs
  list_back vs h json (es, trees, is) =
      let (lawful, means) = each_back vs es h trees in
      record {
        lawful = subst IsLawful (sym is) lawful;
        means = subst (λ (j : Json). ListMeans Means j vs) (sym is) means;
        present = no_array_null es json is;
      }

-- ---- maps

module _ {K V : Type 0} (order : K → K → Ordering) (total : IsTotalOrder order) where
  -- an entry whose key is above all others is put behind them
  put_last : (m : List (K × V)) (k : K) (v : V) → IsAboveEach order total k m
      → insert_entry order m k v ≡ m ++ (k, v) ∷ []
  put_last [] k v h = refl
  put_last (e ∷ es) k v h = rw h.0 (ap (λ (l : List (K × V)). e ∷ l) (put_last es k v h.1))

  -- and its key is new
  new_key : (m : List (K × V)) (k : K) → IsAboveEach order total k m → IsNewKey order k m
  new_key [] k h = refl
  new_key (e ∷ es) k h = rw h.0 (new_key es k h.1)

  module _ (Key : List ℕ → K → Type 0) (name : K → List ℕ) (Means : Json → V → Type 0)
      (Tree : V → Json → Type 0) where
    entries_back : (before es : List (K × V)) (ms : Members)
        → IsStrictlySortedBy order (keys_of (before ++ es))
        → EntriesComeBack Key name Means Tree es → AreEntryTrees name Tree es ms
        → AreLawfulMembers ms × MembersPut order Key Means ms before (before ++ es)
    entries_back before [] no_member s h t = (tt, append-nil before)
    entries_back before (e ∷ es) (member n j ms) s h t =
        let Sorted : List (K × V) → Type 0 = λ l. IsStrictlySortedBy order (keys_of l) in
        let sorted = subst Sorted (sym (append_assoc before (e ∷ []) es)) s in
        let (lawful, puts) = entries_back (before ++ e ∷ []) es ms sorted h.3 t.2 in
        let above = above_before order total before es e s in
        let b = h.2 j t.1 in
        let P : List (K × V) → List (K × V) → Type 0 = λ l m. MembersPut order Key Means ms l m in
        let put = subst (λ (l : List (K × V)). P l ((before ++ e ∷ []) ++ es))
        (sym (put_last before e.0 e.1 above)) puts in (
          (rw t.0 h.0, b.lawful, lawful),
          (
            e.0,
            e.1,
            rw t.0 h.1,
            b.means,
            new_key before e.0 above,
            subst (P (insert_entry order before e.0 e.1)) (append_assoc before (e ∷ []) es) put,
          ),
        )
    entries_back before [] (member n j ms) s h t = absurd t
    entries_back before (e ∷ es) no_member s h t = absurd t

    pub map_back : (m : List (K × V)) → IsStrictlySortedBy order (keys_of m)
        → EntriesComeBack Key name Means Tree m
        → ComesBack (MapMeans order Key Means) (IsMapTree name Tree) m
    map_back m s h json (ms, trees, is) =
        let (lawful, puts) = entries_back [] m ms s h trees in
        record {
          lawful = subst IsLawful (sym is) lawful;
          means = subst (λ (j : Json). MapMeans order Key Means j m) (sym is) puts;
          present = no_object_null ms json is;
        }

-- ---- texts

-- the compact text of a tree is read at just its levels
pub read_from : {V : Type 0} (Means : Json → V → Type 0) (json : Json) (v : V) → IsBack Means json v
    → IsReadFrom Means json v
read_from {V} Means json v back levels = (
  λ fits. (json, written_spells_lemma json back.lawful, fits, back.means),
  λ w read. small w read,
)
  where
    small : (w : V) → SpellsWithin levels Means (written json) w → depth json ≤ levels
    small w (other, spelled, fits, means) =
        let same = one_reading_lemma (written json) json other
        (written_spells_lemma json back.lawful) spelled in
        let deep : depth json ≡ depth other = ap depth same in
        omega (arith, fits, deep)

pub one_spelled : {V : Type 0} (Means : Json → V → Type 0) → IsOneValued Means
    → SpellsOneValue Means
one_spelled {V} Means one text j k v w spelled again p q =
    let P : Json → Type 0 = λ t. Means t w in
    one j v w p (subst P (sym (one_reading_lemma text j k spelled again)) q)
