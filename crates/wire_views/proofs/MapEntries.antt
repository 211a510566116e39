-- Entries that are put into a map one behind another.
use Rattle.std.proofs.Common.{◌≡◌, ℕ, ◌+◌, ◌<◌, ◌≤◌, List, [], ◌∷◌, ◌++◌, length, get_or, take}
use Rattle.std.proofs.Common.{refl, sym, ap, ◌∙◌}
use Rattle.std.proofs.lemmas.List.{map-append, map_more, take_all}
use Rattle.std.specs.BTreeMap.{insert_entry}
use Rattle.std.specs.declared.cmp.Ordering.{Ordering}
use Rattle.wire_fields.specs.Maps.{viewed}
use Rattle.wire_fields.proofs.Maps.{viewed_insert}
use Rattle.wire_views.specs.Entries.{map_with, with_entries}

module _ {K V : Type 0} (order : K → K → Ordering) where
  pub one_more : (m es : List (K × V)) (e : K × V)
      → with_entries order m (es ++ e ∷ []) ≡ insert_entry order (with_entries order m es) e.0 e.1
  one_more m [] e = refl
  one_more m (x ∷ es) e = one_more (insert_entry order m x.0 x.1) es e

-- an entry more behind those that are held
pub entry_more : {S T K V : Type 0} (key : S → K) (value : T → V) (order : K → K → Ordering)
    (all es : List (S × T)) (k : S) (v : T) → all ≡ es ++ (k, v) ∷ []
    → map_with order (viewed key value all)
    ≡ insert_entry order (map_with order (viewed key value es)) (key k) (value v)
entry_more key value order all es k v is =
    ap (λ l. map_with order (viewed key value l)) is
    ∙ ap (map_with order) (map-append (λ e. (key e.0, value e.1)) es ((k, v) ∷ []))
    ∙ one_more order [] (viewed key value es) (key k, value v)

-- the entry at a place is put into the map of those before it
module _ {S T K V O P : Type 0} (key : S → K) (value : T → V) (own_key : O → K) (own_value : P → V)
    (cmp : O → O → Ordering) (order : K → K → Ordering)
    (same : (x y : O) → cmp x y ≡ order (own_key x) (own_key y)) where
  pub owned_entry : (before after : List (O × P)) (es : List (S × T)) (i : ℕ) (e : S × T) (k : O)
      (v : P) → viewed own_key own_value before ≡ map_with order (viewed key value (take i es))
      → i < length es → e ≡ get_or es i e → own_key k ≡ key e.0 → own_value v ≡ value e.1
      → after ≡ insert_entry cmp before k v
      → viewed own_key own_value after ≡ map_with order (viewed key value (take (i + 1) es))
  owned_entry before after es i e k v so within is key_is value_is put =
      ap (viewed own_key own_value) put
      ∙ viewed_insert own_key own_value cmp order same before k v
      ∙ ap (λ m. insert_entry order m (own_key k) (own_value v)) so
      ∙ ap (λ x. insert_entry order (map_with order (viewed key value (take i es))) x (own_value v)) key_is
      ∙ ap (λ x. insert_entry order (map_with order (viewed key value (take i es))) (key e.0) x) value_is
      ∙ ap (λ (x : S × T). insert_entry order (map_with order (viewed key value (take i es))) (key x.0) (value x.1)) is
      ∙ sym (one_more order [] (viewed key value (take i es)) (key (get_or es i e).0, value (get_or es i e).1))
      ∙ ap (map_with order) (sym (map_more (λ e. (key e.0, value e.1)) es i e within))

  pub owned_entries : (m : List (O × P)) (es : List (S × T)) (i : ℕ)
      → viewed own_key own_value m ≡ map_with order (viewed key value (take i es))
      → length es ≤ i → viewed own_key own_value m ≡ map_with order (viewed key value es)
  owned_entries m es i so all =
      so ∙ ap (λ l. map_with order (viewed key value l)) (take_all i es all)

-- the map that the entries are, as contracts see it
module _ {S T K V : Type 0} (key : S → K) (value : T → V) (cmp : S → S → Ordering)
    (order : K → K → Ordering) (same : (x y : S) → cmp x y ≡ order (key x) (key y)) where
  viewed_with : (m es : List (S × T)) → viewed key value (with_entries cmp m es)
      ≡ with_entries order (viewed key value m) (viewed key value es)
  viewed_with m [] = refl
  viewed_with m (e ∷ es) =
      viewed_with (insert_entry cmp m e.0 e.1) es
      ∙ ap (λ x. with_entries order x (viewed key value es))
      (viewed_insert key value cmp order same m e.0 e.1)

  pub viewed_map : (es : List (S × T)) → viewed key value (map_with cmp es)
      ≡ map_with order (viewed key value es)
  viewed_map es = viewed_with [] es
