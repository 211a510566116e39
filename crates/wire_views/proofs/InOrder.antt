-- Entries that stand in the order of their keys, and the map that they are.
use Rattle.std.proofs.Common.{◌≡◌, ◌≢◌, ℕ, suc, ◌+◌, Bool, true, false, not, ◌&&◌, cond, List, [], ◌∷◌, ◌++◌, get_or, refl, sym, ap, subst, ◌∙◌, append_assoc, arith}
use Rattle.std.proofs.lemmas.Bool.{true≢false}
use Rattle.std.proofs.lemmas.List.Elements.{filter-append}
use Rattle.std.specs.BTreeMap.{insert_entry}
use Rattle.std.specs.Cmp.{IsTotalOrder, tied_itself}
use Rattle.std.specs.declared.cmp.Ordering.{Ordering}
use Rattle.std.specs.declared.cmp.Ordering.TheVariants.{Less, Equal, Greater}
use Rattle.std.specs.List.{filter}
use Rattle.std.specs.List.Sorted.{IsSortedBy, IsStableBy, ties}
use Rattle.std.specs.Ordering.{is_eq, is_lt, match_ordering, ordering_reverse}
use Rattle.wire_views.specs.Entries.{map_with, with_entries, put_last, with_runs, Rises}

by_ordering : {P : Type 0} (r : Ordering) → (r ≡ Less → P) → (r ≡ Equal → P) → (r ≡ Greater → P) → P
by_ordering Less f g h = f refl
by_ordering Equal f g h = g refl
by_ordering Greater f g h = h refl

by_bool : {P : Type 0} (b : Bool) → (b ≡ true → P) → (b ≡ false → P) → P
by_bool true f g = f refl
by_bool false f g = g refl

is_equal : (r : Ordering) → is_eq r ≡ true → r ≡ Equal
is_equal Less h = absurd (true≢false (sym h))
is_equal Equal h = refl
is_equal Greater h = absurd (true≢false (sym h))

tie : (r : Ordering) → not (is_lt r) && not (is_lt (ordering_reverse r)) ≡ is_eq r
tie Less = refl
tie Equal = refl
tie Greater = refl

module _ {K : Type 0} {order : K → K → Ordering} (total : IsTotalOrder order) where
  turned : (x y : K) (r : Ordering) → order x y ≡ r → order y x ≡ ordering_reverse r
  turned x y r e = total.antisymm y x ∙ ap ordering_reverse e

  as_other : (x y z : K) → order x y ≡ Equal → order z x ≡ order z y
  as_other x y z e =
      total.antisymm z x ∙ ap ordering_reverse (total.congr x y z e) ∙ sym (total.antisymm z y)

-- ---- an entry behind others

module _ {K V : Type 0} (order : K → K → Ordering) where
  put_behind : (front : List (K × V)) (e : K × V) (k : K) (v : V)
      → put_last order (front ++ e ∷ []) k v ≡ front ++ put_last order (e ∷ []) k v
  put_behind [] e k v = refl
  put_behind (x ∷ []) e k v = refl
  put_behind (x ∷ y ∷ front) e k v =
      ap (λ (l : List (K × V)). x ∷ l) (put_behind (y ∷ front) e k v)

  pub put_in_last : (front all next : List (K × V)) (e : K × V) (k : K) (v : V)
      → all ≡ front ++ e ∷ [] → is_eq (order e.0 k) ≡ true → next ≡ front ++ (e.0, v) ∷ []
      → next ≡ put_last order all k v
  put_in_last front all next e k v is same pushed =
      pushed ∙ ap (λ b. front ++ cond b ((e.0, v) ∷ []) (e ∷ (k, v) ∷ [])) (sym same)
      ∙ sym (put_behind front e k v) ∙ ap (λ l. put_last order l k v) (sym is)

  pub put_after_last : (front all mid next : List (K × V)) (e : K × V) (k : K) (v : V)
      → all ≡ front ++ e ∷ [] → is_eq (order e.0 k) ≡ false → mid ≡ front ++ e ∷ []
      → next ≡ mid ++ (k, v) ∷ [] → next ≡ put_last order all k v
  put_after_last front all mid next e k v is other pushed last =
      last ∙ ap (λ (l : List (K × V)). l ++ (k, v) ∷ []) pushed
      ∙ append_assoc front (e ∷ []) ((k, v) ∷ [])
      ∙ ap (λ b. front ++ cond b ((e.0, v) ∷ []) (e ∷ (k, v) ∷ [])) (sym other)
      ∙ sym (put_behind front e k v) ∙ ap (λ l. put_last order l k v) (sym is)

  pub one_run_more : (m es : List (K × V)) (e : K × V)
      → with_runs order m (es ++ e ∷ []) ≡ put_last order (with_runs order m es) e.0 e.1
  one_run_more m [] e = refl
  one_run_more m (x ∷ es) e = one_run_more (put_last order m x.0 x.1) es e

module _ {K V : Type 0} {order : K → K → Ordering} (total : IsTotalOrder order) where
  -- ---- an entry behind those of lesser keys

  abbrev AreBelow : K → List (K × V) → Type 0
  AreBelow k [] = Unit {0}
  AreBelow k (x ∷ xs) = (order k x.0 ≡ Greater) × AreBelow k xs

  abbrev Ascends : K × V → List (K × V) → Type 0
  Ascends e [] = Unit {0}
  Ascends e (f ∷ es) = (order f.0 e.0 ≢ Less) × Ascends f es

  below_equal : (j k : K) (xs : List (K × V)) → order j k ≡ Equal → AreBelow j xs → AreBelow k xs
  below_equal j k [] e h = tt
  below_equal j k (x ∷ xs) e h = (sym (total.congr j k x.0 e) ∙ h.0, below_equal j k xs e h.1)

  below_more : (j k : K) (v : V) (xs : List (K × V)) → order j k ≡ Less → AreBelow j xs
      → AreBelow k (xs ++ (j, v) ∷ [])
  below_more j k v [] e h = (turned total j k Less e, tt)
  below_more j k v (x ∷ xs) e h = (
    turned total x.0 k Less (total.trans x.0 j k (turned total j x.0 Greater h.0) e),
    below_more j k v xs e h.1,
  )

  -- before, in place of and behind the first

  at_less : (x : K × V) (m : List (K × V)) (k : K) (v : V) → order k x.0 ≡ Less
      → insert_entry order (x ∷ m) k v ≡ (k, v) ∷ x ∷ m
  at_less x m k v e =
      ap (λ r. match_ordering r ((k, v) ∷ x ∷ m) ((x.0, v) ∷ m) (x ∷ insert_entry order m k v)) e

  at_equal : (x : K × V) (m : List (K × V)) (k : K) (v : V) → order k x.0 ≡ Equal
      → insert_entry order (x ∷ m) k v ≡ (x.0, v) ∷ m
  at_equal x m k v e =
      ap (λ r. match_ordering r ((k, v) ∷ x ∷ m) ((x.0, v) ∷ m) (x ∷ insert_entry order m k v)) e

  at_greater : (x : K × V) (m : List (K × V)) (k : K) (v : V) → order k x.0 ≡ Greater
      → insert_entry order (x ∷ m) k v ≡ x ∷ insert_entry order m k v
  at_greater x m k v e =
      ap (λ r. match_ordering r ((k, v) ∷ x ∷ m) ((x.0, v) ∷ m) (x ∷ insert_entry order m k v)) e

  insert_behind : (front es : List (K × V)) (k : K) (v : V) → AreBelow k front
      → insert_entry order (front ++ es) k v ≡ front ++ insert_entry order es k v
  insert_behind [] es k v h = refl
  insert_behind (x ∷ front) es k v h =
      at_greater x (front ++ es) k v h.0
      ∙ ap (λ (l : List (K × V)). x ∷ l) (insert_behind front es k v h.1)

  -- in place of the last, where the keys are equal
  put_equal : (front : List (K × V)) (e f : K × V) → order f.0 e.0 ≡ Equal → AreBelow e.0 front
      → (put_last order (front ++ e ∷ []) f.0 f.1 ≡ front ++ (e.0, f.1) ∷ [])
      × (insert_entry order (front ++ e ∷ []) f.0 f.1 ≡ front ++ (e.0, f.1) ∷ [])
  put_equal front e f is h = (
    put_behind order front e f.0 f.1
        ∙ ap (λ r. front ++ cond (is_eq r) ((e.0, f.1) ∷ []) (e ∷ (f.0, f.1) ∷ []))
        (turned total f.0 e.0 Equal is),
    insert_behind front (e ∷ []) f.0 f.1 (below_equal e.0 f.0 front (turned total f.0 e.0 Equal is) h)
        ∙ ap (λ (l : List (K × V)). front ++ l) (at_equal e [] f.0 f.1 is),
  )

  drop_last : (front : List (K × V)) (e : K × V) (k : K) → AreBelow k (front ++ e ∷ [])
      → AreBelow k front × (order k e.0 ≡ Greater)
  drop_last [] e k h = (tt, h.0)
  drop_last (x ∷ front) e k h = let rest = drop_last front e k h.1 in ((h.0, rest.0), rest.1)

  -- behind the last, where its key is less
  put_above : (front : List (K × V)) (e f : K × V) → order f.0 e.0 ≡ Greater → AreBelow e.0 front
      → (put_last order (front ++ e ∷ []) f.0 f.1 ≡ (front ++ e ∷ []) ++ f ∷ [])
      × (insert_entry order (front ++ e ∷ []) f.0 f.1 ≡ (front ++ e ∷ []) ++ f ∷ [])
  put_above front e f is h =
      let less = turned total f.0 e.0 Greater is in (
        put_behind order front e f.0 f.1
            ∙ ap (λ r. front ++ cond (is_eq r) ((e.0, f.1) ∷ []) (e ∷ (f.0, f.1) ∷ [])) less
            ∙ sym (append_assoc front (e ∷ []) (f ∷ [])),
        insert_behind front (e ∷ []) f.0 f.1
            (drop_last front e f.0 (below_more e.0 f.0 e.1 front less h)).0
            ∙ ap (λ (l : List (K × V)). front ++ l) (at_greater e [] f.0 f.1 is)
            ∙ sym (append_assoc front (e ∷ []) (f ∷ [])),
      )

  ascends_from : (e : K × V) (k : K) (v : V) (es : List (K × V)) → order e.0 k ≡ Equal → Ascends e es
      → Ascends (k, v) es
  ascends_from e k v [] is h = tt
  ascends_from e k v (f ∷ es) is h =
      ((λ less. h.0 (as_other total e.0 k f.0 is ∙ less)), h.1)

  same_runs : (front : List (K × V)) (e : K × V) (es : List (K × V)) → AreBelow e.0 front
      → Ascends e es
      → with_runs order (front ++ e ∷ []) es ≡ with_entries order (front ++ e ∷ []) es
  same_runs front e [] h up = refl
  same_runs front e (f ∷ es) h up =
      by_ordering (order f.0 e.0) (λ less. absurd (up.0 less))
      (λ equal.
      let both = put_equal front e f equal h in
      ap (λ m. with_runs order m es) both.0
      ∙ same_runs front (e.0, f.1) es h (ascends_from f e.0 f.1 es equal up.1)
      ∙ ap (λ m. with_entries order m es) (sym both.1))
      (λ greater.
      let both = put_above front e f greater h in
      ap (λ m. with_runs order m es) both.0
      ∙ same_runs (front ++ e ∷ []) f es
      (below_more e.0 f.0 e.1 front (turned total f.0 e.0 Greater greater) h) up.1
      ∙ ap (λ m. with_entries order m es) (sym both.1))

  rising : (front : List (K × V)) (e : K × V) (es : List (K × V)) → AreBelow e.0 front
      → Rises order (e ∷ es) → with_entries order (front ++ e ∷ []) es ≡ front ++ e ∷ es
  rising front e [] h up = refl
  rising front e (f ∷ es) h up =
      ap (λ m. with_entries order m es) (put_above front e f (turned total e.0 f.0 Less up.0) h).1
      ∙ rising (front ++ e ∷ []) f es (below_more e.0 f.0 e.1 front up.0 h) up.1
      ∙ append_assoc front (e ∷ []) (f ∷ es)

  -- entries whose keys rise are the map
  pub rising_are_map : (es : List (K × V)) → Rises order es → map_with order es ≡ es
  rising_are_map [] up = refl
  rising_are_map (e ∷ es) up = rising [] e es tt up

  -- ---- the map rises

  revalued : (e : K × V) (v : V) (es : List (K × V)) → Rises order (e ∷ es)
      → Rises order ((e.0, v) ∷ es)
  revalued e v [] up = tt
  revalued e v (f ∷ es) up = up

  behind_rises : (e : K × V) (es : List (K × V)) (k : K) (v : V) → order e.0 k ≡ Less
      → Rises order (e ∷ es) → Rises order (e ∷ insert_entry order es k v)
  behind_rises e [] k v less up = (less, tt)
  behind_rises e (f ∷ es) k v less up =
      by_ordering (order k f.0)
      (λ below. rw (at_less f es k v below) (less, (below, up.1)))
      (λ equal. rw (at_equal f es k v equal) (up.0, revalued f v es up.1))
      (λ above. rw (at_greater f es k v above)
      (up.0, behind_rises f es k v (turned total k f.0 Greater above) up.1))

  insert_rises : (es : List (K × V)) (k : K) (v : V) → Rises order es
      → Rises order (insert_entry order es k v)
  insert_rises [] k v up = tt
  insert_rises (e ∷ es) k v up =
      by_ordering (order k e.0)
      (λ below. rw (at_less e es k v below) (below, up))
      (λ equal. rw (at_equal e es k v equal) (revalued e v es up))
      (λ above. rw (at_greater e es k v above)
      (behind_rises e es k v (turned total k e.0 Greater above) up))

  entries_rise : (m es : List (K × V)) → Rises order m → Rises order (with_entries order m es)
  entries_rise m [] up = up
  entries_rise m (e ∷ es) up =
      entries_rise (insert_entry order m e.0 e.1) es (insert_rises m e.0 e.1 up)

  pub map_rises : (es : List (K × V)) → Rises order (map_with order es)
  map_rises es = entries_rise [] es tt

  abbrev lt : K × V → K × V → Bool
  lt x y = is_lt (order x.0 y.0)

  ascends : (e : K × V) (es : List (K × V)) → IsSortedBy lt (e ∷ es) → Ascends e es
  ascends e [] sorted = tt
  ascends e (f ∷ es) sorted = (
    λ less. true≢false (sym (ap is_lt less) ∙ sorted 0 e (omega arith) (omega arith)),
    ascends f es (λ k d low high.
        let next : suc k + 1 ≡ suc (k + 1) = omega arith in
        subst (λ (n : ℕ). lt (get_or (e ∷ f ∷ es) n d) (get_or (f ∷ es) k d) ≡ false) next
        (sorted (suc k) d (omega arith) (omega arith))),
  )

  -- the runs of entries in order are the map
  pub runs_are_map : (es : List (K × V)) → IsSortedBy lt es
      → with_runs order [] es ≡ map_with order es
  runs_are_map [] sorted = refl
  runs_are_map (e ∷ es) sorted = same_runs [] e es tt (ascends e es sorted)

  -- ---- entries of equal keys in the same order are the same map

  insert_turned : (a b : K × V) → order a.0 b.0 ≡ Less → (m : List (K × V))
      → insert_entry order (insert_entry order m a.0 a.1) b.0 b.1
      ≡ insert_entry order (insert_entry order m b.0 b.1) a.0 a.1
  insert_turned a b less [] =
      at_greater a [] b.0 b.1 (turned total a.0 b.0 Less less) ∙ sym (at_less b [] a.0 a.1 less)
  insert_turned a b less (x ∷ m) =
      let greater = turned total a.0 b.0 Less less in
      by_ordering (order a.0 x.0)
      (λ below. ap (λ l. insert_entry order l b.0 b.1) (at_less x m a.0 a.1 below)
      ∙ at_greater a (x ∷ m) b.0 b.1 greater
      ∙ by_ordering (order b.0 x.0)
      (λ e. let is = at_less x m b.0 b.1 e in
      ap (λ (l : List (K × V)). a ∷ l) is ∙ sym (at_less b (x ∷ m) a.0 a.1 less)
      ∙ ap (λ l. insert_entry order l a.0 a.1) (sym is))
      (λ e. let is = at_equal x m b.0 b.1 e in
      ap (λ (l : List (K × V)). a ∷ l) is ∙ sym (at_less (x.0, b.1) m a.0 a.1 below)
      ∙ ap (λ l. insert_entry order l a.0 a.1) (sym is))
      (λ e. let is = at_greater x m b.0 b.1 e in
      ap (λ (l : List (K × V)). a ∷ l) is
      ∙ sym (at_less x (insert_entry order m b.0 b.1) a.0 a.1 below)
      ∙ ap (λ l. insert_entry order l a.0 a.1) (sym is)))
      (λ same.
      let above = sym (as_other total a.0 x.0 b.0 same) ∙ greater in
      ap (λ l. insert_entry order l b.0 b.1) (at_equal x m a.0 a.1 same)
      ∙ at_greater (x.0, a.1) m b.0 b.1 above
      ∙ sym (at_equal x (insert_entry order m b.0 b.1) a.0 a.1 same)
      ∙ ap (λ l. insert_entry order l a.0 a.1) (sym (at_greater x m b.0 b.1 above)))
      (λ behind.
      let above = turned total x.0 b.0 Less
      (total.trans x.0 a.0 b.0 (turned total a.0 x.0 Greater behind) less) in
      ap (λ l. insert_entry order l b.0 b.1) (at_greater x m a.0 a.1 behind)
      ∙ at_greater x (insert_entry order m a.0 a.1) b.0 b.1 above
      ∙ ap (λ (l : List (K × V)). x ∷ l) (insert_turned a b less m)
      ∙ sym (at_greater x (insert_entry order m b.0 b.1) a.0 a.1 behind)
      ∙ ap (λ l. insert_entry order l a.0 a.1) (sym (at_greater x m b.0 b.1 above)))

  -- entries of other keys are put in either order
  insert_either : (a b : K × V) → order a.0 b.0 ≢ Equal → (m : List (K × V))
      → insert_entry order (insert_entry order m a.0 a.1) b.0 b.1
      ≡ insert_entry order (insert_entry order m b.0 b.1) a.0 a.1
  insert_either a b other m =
      by_ordering (order a.0 b.0) (λ less. insert_turned a b less m) (λ same. absurd (other same))
      (λ greater. sym (insert_turned b a (turned total a.0 b.0 Greater greater) m))

  -- whether the keys are equal
  abbrev ties_with : K × V → K × V → Bool
  ties_with x y = is_eq (order x.0 y.0)

  ties_itself : (x : K × V) → ties_with x x ≡ true
  ties_itself x = ap is_eq (tied_itself total x.0)

  skipped : (p : K × V → Bool) (x : K × V) (xs : List (K × V)) → p x ≡ false
      → filter p (x ∷ xs) ≡ filter p xs
  skipped p x xs e = ap (λ b. cond b (x ∷ filter p xs) (filter p xs)) e

  passed : (p : K × V → Bool) (x : K × V) (xs : List (K × V)) → p x ≡ true
      → filter p (x ∷ xs) ≡ x ∷ filter p xs
  passed p x xs e = ap (λ b. cond b (x ∷ filter p xs) (filter p xs)) e

  -- the first that passes
  record FirstPassed (p : K × V → Bool) (y : K × V) (rest xs : List (K × V)) : Type 0 where
    front : List (K × V)
    back : List (K × V)
    parts : xs ≡ front ++ y ∷ back
    none : filter p front ≡ []
    behind : filter p back ≡ rest

  first_passed : (p : K × V → Bool) (y : K × V) (rest xs : List (K × V))
      → filter p xs ≡ y ∷ rest → FirstPassed p y rest xs
  first_passed p y rest [] h = absurd cc
  first_passed p y rest (x ∷ xs) h =
      by_bool (p x)
      (λ yes.
      let both : x ∷ filter p xs ≡ y ∷ rest = sym (passed p x xs yes) ∙ h in
      let first : x ≡ y = cc in
      record {
        front = [];
        back = xs;
        parts = ap (λ (z : K × V). z ∷ xs) first;
        none = refl;
        behind = cc;
      })
      (λ no.
      let more = first_passed p y rest xs (sym (skipped p x xs no) ∙ h) in
      record {
        front = x ∷ more.front;
        back = more.back;
        parts = ap (λ (l : List (K × V)). x ∷ l) more.parts;
        none = skipped p x more.front no ∙ more.none;
        behind = more.behind;
      })

  -- an entry is taken out from behind those of other keys
  taken_out : (y : K × V) (front back m : List (K × V)) → filter (ties_with y) front ≡ []
      → with_entries order m (front ++ y ∷ back)
      ≡ with_entries order (insert_entry order m y.0 y.1) (front ++ back)
  taken_out y [] back m none = refl
  taken_out y (x ∷ front) back m none =
      by_bool (ties_with y x)
      (λ yes. let e : x ∷ filter (ties_with y) front ≡ [] = sym (passed (ties_with y) x front yes) ∙ none in
      absurd cc)
      (λ no. taken_out y front back (insert_entry order m x.0 x.1)
      (sym (skipped (ties_with y) x front no) ∙ none)
      ∙ ap (λ l. with_entries order l (front ++ back))
      (insert_either x y (λ same. true≢false
      (sym (ap is_eq (turned total x.0 y.0 Equal same)) ∙ no)) m))

  same_map : (ys xs m : List (K × V))
      → ((x : K × V) → filter (ties_with x) ys ≡ filter (ties_with x) xs)
      → with_entries order m ys ≡ with_entries order m xs
  same_map [] [] m h = refl
  same_map [] (x ∷ xs) m h =
      let e : [] ≡ x ∷ filter (ties_with x) xs =
      h x ∙ passed (ties_with x) x xs (ties_itself x) in
      absurd cc
  same_map (y ∷ ys) xs m h =
      let first = first_passed (ties_with y) y (filter (ties_with y) ys) xs
      (sym (h y) ∙ passed (ties_with y) y ys (ties_itself y)) in
      let left = first.front ++ first.back in
      same_map ys left (insert_entry order m y.0 y.1) (λ x.
      let p = ties_with x in
      let all : filter p (y ∷ ys) ≡ filter p first.front ++ filter p (y ∷ first.back) =
      h x ∙ ap (filter p) first.parts ∙ filter-append p first.front (y ∷ first.back) in
      by_bool (p y)
      (λ yes.
      let none : filter p first.front ≡ [] =
      ap (λ q. filter q first.front) (λ i z. is_eq (total.congr x.0 y.0 z.0 (is_equal _ yes) i))
      ∙ first.none in
      let both : y ∷ filter p ys ≡ y ∷ filter p first.back =
      sym (passed p y ys yes) ∙ all
      ∙ ap (λ (l : List (K × V)). l ++ filter p (y ∷ first.back)) none
      ∙ passed p y first.back yes in
      let rest : filter p ys ≡ filter p first.back = cc in
      rest ∙ ap (λ (l : List (K × V)). l ++ filter p first.back) (sym none)
      ∙ sym (filter-append p first.front first.back))
      (λ no. sym (skipped p y ys no) ∙ all
      ∙ ap (λ (l : List (K × V)). filter p first.front ++ l) (skipped p y first.back no)
      ∙ sym (filter-append p first.front first.back)))
      ∙ sym (taken_out y first.front first.back m first.none)
      ∙ ap (with_entries order m) (sym first.parts)

  tied : (x y : K × V) → ties lt x y ≡ ties_with x y
  tied x y =
      ap (λ r. not (is_lt (order x.0 y.0)) && not (is_lt r)) (turned total x.0 y.0 _ refl)
      ∙ tie (order x.0 y.0)

  -- entries that a stable sort put in order are the same map
  pub stable_map : (xs ys : List (K × V)) → IsStableBy lt xs ys
      → map_with order ys ≡ map_with order xs
  stable_map xs ys stable =
      same_map ys xs [] (λ x. sym (ap (λ p. filter p ys) (λ i z. tied x z i)) ∙ stable x
      ∙ ap (λ p. filter p xs) (λ i z. tied x z i))
