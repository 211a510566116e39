-- Maps whose keys ascend.
use Rattle.std.proofs.Common.{◌≡◌, ℕ, List, [], ◌∷◌, ◌++◌, refl, sym, ap, ◌∙◌, subst}
use Rattle.std.specs.BTreeMap.{insert_entry}
use Rattle.std.specs.Cmp.{IsTotalOrder}
use Rattle.std.specs.List.{AllByRecursion}
use Rattle.std.specs.List.Sorted.{IsStrictlySortedBy}
use Rattle.std.specs.Map.{keys_of}
use Rattle.std.specs.Ordering.{match_ordering, ordering_reverse}
use Rattle.std.specs.declared.cmp.Ordering.{Ordering}
use Rattle.std.specs.declared.cmp.Ordering.TheVariants.{Less, Equal, Greater}
use Rattle.wire_json.specs.Json.{Json, null, boolean, number, string, array, object, Members, no_member, member}
use Rattle.wire_jsonfields.specs.Maps.{MapMeans, MembersPut}

none_sorted : {K : Type 0} (order : K → K → Ordering) → IsStrictlySortedBy order []
unfolding IsStrictlySortedBy
none_sorted order = tt

module _ {K : Type 0} (order : K → K → Ordering) (total : IsTotalOrder order) where
  all_below : (k e : K) → order k e ≡ Less → (keys : List K)
      → AllByRecursion (λ y. order e y ≡ Less) keys → AllByRecursion (λ y. order k y ≡ Less) keys
  all_below k e below [] h = tt
  all_below k e below (y ∷ keys) h = (total.trans k e y below h.0, all_below k e below keys h.1)

  turned : (k e : K) (o : Ordering) → order k e ≡ o → order e k ≡ ordering_reverse o
  turned k e o is = total.antisymm e k ∙ ap ordering_reverse is

module _ {K V : Type 0} (order : K → K → Ordering) where
  all_placed : (P : K → Type 0) (e : K × V) (es : List (K × V)) (k : K) (v : V) (o : Ordering)
      → P k → P e.0 → AllByRecursion P (keys_of es)
      → AllByRecursion P (keys_of (insert_entry order es k v))
      → AllByRecursion P (keys_of (match_ordering o ((k, v) ∷ e ∷ es) ((e.0, v) ∷ es)
      (e ∷ insert_entry order es k v)))
  all_placed P e es k v Less p first rest more = (p, (first, rest))
  all_placed P e es k v Equal p first rest more = (first, rest)
  all_placed P e es k v Greater p first rest more = (first, more)

  -- what holds of a key that is put and of all others holds of all then
  all_put : (P : K → Type 0) (es : List (K × V)) (k : K) (v : V) → P k
      → AllByRecursion P (keys_of es) → AllByRecursion P (keys_of (insert_entry order es k v))
  all_put P [] k v p h = (p, tt)
  all_put P (e ∷ es) k v p h =
      all_placed P e es k v (order k e.0) p h.0 h.1 (all_put P es k v p h.1)

  module _ (total : IsTotalOrder order) where
    sorted_placed : (e : K × V) (es : List (K × V)) (k : K) (v : V) (o : Ordering)
        → order k e.0 ≡ o → IsStrictlySortedBy order (keys_of (e ∷ es))
        → IsStrictlySortedBy order (keys_of (insert_entry order es k v))
        → IsStrictlySortedBy order (keys_of (match_ordering o ((k, v) ∷ e ∷ es) ((e.0, v) ∷ es)
        (e ∷ insert_entry order es k v)))
    unfolding IsStrictlySortedBy
    sorted_placed e es k v Less is s more = ((is, all_below order total k e.0 is (keys_of es) s.0), s)
    sorted_placed e es k v Equal is s more = s
    sorted_placed e es k v Greater is s more =
        (all_put (λ y. order e.0 y ≡ Less) es k v (turned order total k e.0 Greater is) s.0, more)

    -- an entry that is put in its place leaves the keys ascending
    sorted_put : (es : List (K × V)) (k : K) (v : V) → IsStrictlySortedBy order (keys_of es)
        → IsStrictlySortedBy order (keys_of (insert_entry order es k v))
    unfolding IsStrictlySortedBy
    sorted_put [] k v s = (tt, tt)
    sorted_put (e ∷ es) k v s =
        sorted_placed e es k v (order k e.0) refl s (sorted_put es k v s.1)

    members_sorted : (Key : List ℕ → K → Type 0) (Means : Json → V → Type 0) (ms : Members)
        (before after : List (K × V)) → MembersPut order Key Means ms before after
        → IsStrictlySortedBy order (keys_of before) → IsStrictlySortedBy order (keys_of after)
    members_sorted Key Means no_member before after put s =
        subst (λ (l : List (K × V)). IsStrictlySortedBy order (keys_of l)) (sym put) s
    members_sorted Key Means (member n e ms) before after (k, v, named, means, new, put) s =
        members_sorted Key Means ms (insert_entry order before k v) after put
        (sorted_put before k v s)

    pub map_sorted : (Key : List ℕ → K → Type 0) (Means : Json → V → Type 0) (json : Json)
        (m : List (K × V)) → MapMeans order Key Means json m → IsStrictlySortedBy order (keys_of m)
    map_sorted Key Means (object ms) m put = members_sorted Key Means ms [] m put (none_sorted order)
    map_sorted Key Means null m put = absurd put
    map_sorted Key Means (boolean b) m put = absurd put
    map_sorted Key Means (number text) m put = absurd put
    map_sorted Key Means (string bytes) m put = absurd put
    map_sorted Key Means (array es) m put = absurd put

    -- ---- the key of an entry is above those before it

    abbrev pub IsAboveEach : K → List (K × V) → Type 0
    IsAboveEach k [] = Unit {0}
    IsAboveEach k (e ∷ es) = (order k e.0 ≡ Greater) × IsAboveEach k es

    at_entry : (P : K → Type 0) (before es : List (K × V)) (e : K × V)
        → AllByRecursion P (keys_of (before ++ e ∷ es)) → P e.0
    at_entry P [] es e h = h.0
    at_entry P (b ∷ before) es e h = at_entry P before es e h.1

    pub above_before : (before es : List (K × V)) (e : K × V)
        → IsStrictlySortedBy order (keys_of (before ++ e ∷ es)) → IsAboveEach e.0 before
    unfolding IsStrictlySortedBy
    above_before [] es e s = tt
    above_before (b ∷ before) es e s = (
      turned order total b.0 e.0 Less (at_entry (λ y. order b.0 y ≡ Less) before es e s.0),
      above_before before es e s.1,
    )
