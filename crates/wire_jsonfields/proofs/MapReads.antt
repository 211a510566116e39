-- What is read of a map, member by member.
use Rattle.std.proofs.Common.{◌≡◌, ℕ, zero, suc, ◌+◌, ◌<◌, ◌≤◌, true, false, List, [], ◌∷◌, length, drop, slice_index_or, Option, Some, None, Bool, cond, refl, sym, ap, ◌∙◌, subst, arith}
use Rattle.std.proofs.Math.Seq.{drop-cons}
use Rattle.std.specs.BTreeMap.{insert_entry, is_at}
use Rattle.std.specs.Cow.{cow_str_bytes}
use Rattle.std.specs.Map.{lookup}
use Rattle.std.specs.Ordering.{is_eq, match_ordering}
use Rattle.std.specs.Prelude.{is_some}
use Rattle.std.specs.declared.cmp.Ordering.{Ordering}
use Rattle.std.specs.declared.cmp.Ordering.TheVariants.{Less, Equal, Greater}
use Rattle.wire_json.specs.Json.{Json, Members, no_member, member, members_depth}
use Rattle.wire_json.specs.Reading.{ReadsValue}
use Rattle.wire_json.proofs.OneReading.{one_value_lemma}
use Rattle.wire_jsonfields.specs.declared.object.PlacedMember.{PlacedMember}
use Rattle.wire_jsonfields.specs.Levels.{NothingMeant, ReadsWithin}
use Rattle.wire_jsonfields.specs.Maps.{IsNewKey, MembersPut, entries_seen}
use Rattle.wire_jsonfields.specs.Objects.{ArePlaced}
use Rattle.wire_jsonfields.specs.OneValues.{IsOneValued}

-- ---- entries as they are held

module _ {S T K V : Type 0} (key : S → K) (value : T → V) (cmp : S → S → Ordering)
    (order : K → K → Ordering) (same : (x y : S) → cmp x y ≡ order (key x) (key y)) where
  placed : (o : Ordering) (k x : S) (v w : T) (es : List (S × T))
      → entries_seen key value (insert_entry cmp es k v)
      ≡ insert_entry order (entries_seen key value es) (key k) (value v)
      → entries_seen key value (match_ordering o ((k, v) ∷ (x, w) ∷ es) ((x, v) ∷ es)
      ((x, w) ∷ insert_entry cmp es k v))
      ≡ match_ordering o ((key k, value v) ∷ (key x, value w) ∷ entries_seen key value es)
      ((key x, value v) ∷ entries_seen key value es)
      ((key x, value w) ∷ insert_entry order (entries_seen key value es) (key k) (value v))
  placed Less k x v w es more = refl
  placed Equal k x v w es more = refl
  placed Greater k x v w es more = ap (λ (l : List (K × V)). (key x, value w) ∷ l) more

  -- an entry is put in the same place in either
  pub seen_insert : (es : List (S × T)) (k : S) (v : T)
      → entries_seen key value (insert_entry cmp es k v)
      ≡ insert_entry order (entries_seen key value es) (key k) (value v)
  seen_insert [] k v = refl
  seen_insert (e ∷ es) k v =
      placed (cmp k e.0) k e.0 v e.1 es (seen_insert es k v)
      ∙ ap (λ o. match_ordering o ((key k, value v) ∷ (key e.0, value e.1) ∷ entries_seen key value es)
      ((key e.0, value v) ∷ entries_seen key value es)
      ((key e.0, value e.1) ∷ insert_entry order (entries_seen key value es) (key k) (value v)))
      (same k e.0)

  either : (b : Bool) (x : T) (y : Option T) (z : Option V) → is_some y ≡ is_some z
      → is_some (cond b (Some x) y) ≡ is_some (cond b (Some (value x)) z)
  either true x y z h = refl
  either false x y z h = h

  -- a key is found in either
  pub seen_found : (es : List (S × T)) (k : S) → is_some (lookup (is_at (cmp k)) es)
      ≡ is_some (lookup (is_at (order (key k))) (entries_seen key value es))
  seen_found [] k = refl
  seen_found (e ∷ es) k =
      either (is_eq (cmp k e.0)) e.1 (lookup (is_at (cmp k)) es)
      (lookup (is_at (order (key k))) (entries_seen key value es)) (seen_found es k)
      ∙ ap (λ o. is_some (cond (is_eq o) (Some (value e.1))
      (lookup (is_at (order (key k))) (entries_seen key value es)))) (same k e.0)

pub none_found : {X : Type 0} (o : Option X) → is_some o ≡ false → o ≡ None
none_found None h = refl
none_found (Some x) h = absurd cc

found_none : {X : Type 0} (o : Option X) → is_some o ≡ true → o ≡ None → ⊥
found_none None h is = absurd cc
found_none (Some x) h is = absurd cc

-- ---- entries of the object

pub next_member : (entries : List PlacedMember) (i : ℕ) (item : PlacedMember) → i < length entries
    → item ≡ slice_index_or entries i item → drop i entries ≡ item ∷ drop (i + 1) entries
next_member entries i item within is =
    let next : suc i ≡ i + 1 = omega arith in
    drop-cons entries i item within
    ∙ ap (λ (x : PlacedMember). x ∷ drop (suc i) entries) (sym is)
    ∙ ap (λ (k : ℕ). item ∷ drop k entries) next

pub no_members_left : (xs : List PlacedMember) (k : ℕ) → length xs ≤ k → drop k xs ≡ []
no_members_left [] zero h = refl
no_members_left [] (suc k) h = refl
no_members_left (x ∷ xs) zero h = absurd (omega (arith, h))
no_members_left (x ∷ xs) (suc k) h = no_members_left xs k (omega (arith, h))

module _ {K V : Type 0} (order : K → K → Ordering) (Key : List ℕ → K → Type 0)
    (Means : Json → V → Type 0) (text : List ℕ) where
  abbrev Puts : Members → List (K × V) → List (K × V) → Type 0
  Puts = MembersPut order Key Means

  -- what the members that are left make of the map, all make of none, and the other way round
  pub record MapSofar (rest : List PlacedMember) (map : List (K × V)) (ms : Members) : Type 0 where
    pub left : Members
    pub are : ArePlaced text rest left
    pub whole : (m : List (K × V)) → MembersPut order Key Means left map m
        → MembersPut order Key Means ms [] m
    pub behind : (m : List (K × V)) → MembersPut order Key Means ms [] m
        → MembersPut order Key Means left map m
    pub deep : members_depth left ≤ members_depth ms

  pub map_opened : (entries : List PlacedMember) (ms : Members) → ArePlaced text entries ms
      → MapSofar entries [] ms
  map_opened entries ms h = record {
    left = ms;
    are = h;
    whole = λ m p. p;
    behind = λ m p. p;
    deep = omega arith;
  }

  pub map_read : (map : List (K × V)) (ms : Members) → MapSofar [] map ms → Puts ms [] map
  map_read map ms s = s.whole map (by_left s.left s.are)
    where
      by_left : (left : Members) → ArePlaced text [] left → Puts left map map
      by_left no_member are = refl
      by_left (member n e more) are = absurd are

  module _ (entry : PlacedMember) (rest : List PlacedMember) (map : List (K × V)) (ms : Members)
      (s : MapSofar (entry ∷ rest) map ms) where
    abbrev First : Type 0
    First =
        (name : List ℕ) × (e : Json) × (more : Members) × (s.left ≡ member name e more)
        × (cow_str_bytes entry.name ≡ name)
        × ((new : List ℕ) × ReadsValue e (drop entry.place text) new)
        × ArePlaced text rest more

    first_left : First
    first_left = by_left s.left s.are
      where
        by_left : (left : Members) → ArePlaced text (entry ∷ rest) left
            → (name : List ℕ) × (e : Json) × (more : Members) × (left ≡ member name e more)
            × (cow_str_bytes entry.name ≡ name)
            × ((new : List ℕ) × ReadsValue e (drop entry.place text) new)
            × ArePlaced text rest more
        by_left no_member are = absurd are
        by_left (member name e more) are = (name, e, more, refl, are.0, are.1, are.2)

    -- what any map of the members has of this one
    had : (m : List (K × V)) → Puts ms [] m → (f : First) → Puts (member f.0 f.1 f.2) map m
    had m p f = subst (λ (l : Members). Puts l map m) f.3 (s.behind m p)

    pub no_key : ((k : K) → Key (cow_str_bytes entry.name) k → ⊥) → (m : List (K × V))
        → Puts ms [] m → ⊥
    no_key none m p =
        let f = first_left in
        let (k, v, named, means, new, more) = had m p f in
        none k (subst (λ (n : List ℕ). Key n k) (sym f.4) named)

    pub no_value : (levels : ℕ) → NothingMeant levels Means (drop entry.place text)
        → members_depth ms ≤ levels → (m : List (K × V)) → Puts ms [] m → ⊥
    no_value levels nothing fits m p =
        let f = first_left in
        let (k, v, named, means, fresh, more) = had m p f in
        let within : members_depth (member f.0 f.1 f.2) ≤ members_depth ms =
        subst (λ (l : Members). members_depth l ≤ members_depth ms) f.3 s.deep in
        let (new, reads) = f.5 in
        nothing v new (f.1, reads, omega (arith, within, fits), means)

    module _ (one_key : (name : List ℕ) (j k : K) → Key name j → Key name k → j ≡ k) (k : K)
        (named : Key (cow_str_bytes entry.name) k) where
      pub old_key : is_some (lookup (is_at (order k)) map) ≡ true → (m : List (K × V))
          → Puts ms [] m → ⊥
      old_key found m p =
          let f = first_left in
          let (j, v, mine, means, new, more) = had m p f in
          let again = subst (λ (n : List ℕ). Key n k) f.4 named in
          let P : K → Type 0 = λ x. lookup (is_at (order x)) map ≡ None in
          found_none (lookup (is_at (order k)) map) found
          (subst P (one_key f.0 j k mine again) new)

      pub map_goes_on : IsOneValued Means → (levels : ℕ) (v : V) (after : List ℕ)
          → ReadsWithin levels Means (drop entry.place text) v after → IsNewKey order k map
          → MapSofar rest (insert_entry order map k v) ms
      map_goes_on one levels v after (json, reads, fits, means) new =
          let f = first_left in
          let (here, stands) = f.5 in
          let same = one_value_lemma json f.1 (drop entry.place text) after here reads stands in
          let meant = subst (λ (j : Json). Means j v) same.0 means in
          let mine = subst (λ (n : List ℕ). Key n k) f.4 named in
          let within : members_depth (member f.0 f.1 f.2) ≤ members_depth ms =
          subst (λ (l : Members). members_depth l ≤ members_depth ms) f.3 s.deep in
          record {
            left = f.2;
            are = f.6;
            whole = λ m p.
                s.whole m (subst (λ (l : Members). Puts l map m) (sym f.3)
                (k, v, mine, meant, new, p));
            behind = λ m p.
                let (j, w, named_j, means_w, fresh, more) = had m p f in
                let P : K → V → Type 0 = λ x y. Puts f.2 (insert_entry order map x y) m in
                subst (λ y. P k y) (one f.1 w v means_w meant)
                (subst (λ x. P x w) (one_key f.0 j k named_j mine) more);
            deep = omega (arith, within);
          }
