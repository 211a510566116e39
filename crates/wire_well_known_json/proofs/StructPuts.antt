-- What is written of a value: lists and structs of what is written of values.
use Rattle.std.proofs.Common.{◌≡◌, ℕ, ◌≤◌, List, [], ◌∷◌, ◌++◌, map, refl, sym, ◌∙◌, subst, arith, append_assoc, append-nil}
use Rattle.std.proofs.lemmas.Cmp.{nat_list_cmp_total}
use Rattle.std.proofs.lemmas.Str.{IsUtf8-string_bytes}
use Rattle.wire_well_known.specs.declared.struct_fields_entry.StructFieldsEntry.{StructFieldsEntry, fold_out-StructFieldsEntry, out-StructFieldsEntry}
use Rattle.std.specs.BTreeMap.{insert_entry}
use Rattle.std.specs.List.{AllByRecursion}
use Rattle.std.specs.List.Sorted.{IsStrictlySortedBy}
use Rattle.std.specs.Map.{keys_of}
use Rattle.std.specs.Ordering.{match_ordering}
use Rattle.std.specs.Float.{Float, binary64, float_is_finite, nan, inf, fin}
use Rattle.std.specs.Prelude.{IsTrue, IsUtf8, OnOk, Result, Ok, Err, true, false}
use Rattle.wire_protojson.specs.Trees.{IsFloatTree}
use Rattle.std.specs.declared.cmp.Ordering.{Ordering}
use Rattle.std.specs.declared.cmp.Ordering.TheVariants.{Less, Equal, Greater}
use Rattle.wire_json.specs.Json.{Json, null, boolean, number, string, array, object, AreLawful, AreLawfulMembers}
use Rattle.wire_json.specs.Json.{Elements, no_element, element, Members, no_member, member}
use Rattle.wire_jsonfields.specs.Ascending.{IsAboveEach, above_before}
use Rattle.wire_jsonfields.specs.Lists.{AreTrees, IsListTree}
use Rattle.wire_jsonfields.specs.Maps.{AreEntryTrees, IsMapTree, IsNewKey, entries_seen}
use Rattle.wire_jsonfields.specs.Told.{HasNoTree}
use Rattle.wire_well_known_json.specs.Structs.{Plain, nothing, number_value, string_value, struct_value, list_value, values_of, struct_fields, Plain-Fields, name_order, MeanValues, MeanFields, IsValueTree, put_fields, entry-plain, held_fields, nesting, values_nesting, fields_nesting, value_kind-step, list_value-step, struct-step, entry-step, value-step}
use Rattle.wire_well_known_json.specs.OnePlain.{same_fields, same_values}
use Rattle.wire_well_known_json.proofs.StructReads.{put_last}

-- ---- lists

lists_mean : (vs : List Plain) (es : Elements) → AreTrees IsValueTree vs es
    → AreLawful es × MeanValues es vs
lists_mean [] no_element h = (tt, tt)
lists_mean (v ∷ vs) (element e es) h =
    let (lawful, means) = lists_mean vs es h.1 in
    ((h.0.0, lawful), (h.0.1, means))
lists_mean [] (element e es) h = absurd h
lists_mean (v ∷ vs) no_element h = absurd h

lists_stand : (vs : List Plain) (es : Elements) → AreLawful es → MeanValues es vs
    → AreTrees IsValueTree vs es
lists_stand [] no_element l h = tt
lists_stand (v ∷ vs) (element e es) l h = ((l.0, h.0), lists_stand vs es l.1 h.1)
lists_stand [] (element e es) l h = absurd h
lists_stand (v ∷ vs) no_element l h = absurd h

pub list_tree : (vs : List Plain) (json : Json) → IsListTree IsValueTree vs json
    → IsValueTree (list_value (values_of vs)) json
list_tree vs json (es, trees, is) =
    let (lawful, means) = lists_mean vs es trees in
    subst (IsValueTree (list_value (values_of vs))) (sym is) (lawful, (vs, means, refl))

pub list_untold : (vs : List Plain) → HasNoTree (IsListTree IsValueTree) vs
    → HasNoTree IsValueTree (list_value (values_of vs))
list_untold vs none (array es) (lawful, (ws, means, is)) =
    let P : List Plain → Type 0 = λ l. MeanValues es l in
    none (array es) (es, lists_stand vs es lawful (subst P (sym (same_values vs ws is)) means), refl)
list_untold vs none null (lawful, is) = absurd cc
list_untold vs none (boolean b) (lawful, is) = absurd cc
list_untold vs none (number t) (lawful, (x, parses, finite, is)) = absurd cc
list_untold vs none (string s) (lawful, is) = absurd cc
list_untold vs none (object ms) (lawful, (m, means, is)) = absurd cc

-- ---- structs

abbrev AnyValue : Plain → Type 0
AnyValue v = Unit {0}

-- each name is UTF-8
abbrev pub HaveNames : Plain-Fields → Type 0
HaveNames = AllByRecursion (λ e. IsUtf8 e.0 × AnyValue e.1)

new_name : (m : Plain-Fields) (k : List ℕ) → IsAboveEach name_order nat_list_cmp_total k m
    → IsNewKey name_order k m
new_name [] k h = refl
new_name (e ∷ es) k h = rw h.0 (new_name es k h.1)

fields_mean : (before es : Plain-Fields) (ms : Members)
    → IsStrictlySortedBy name_order (keys_of (before ++ es)) → HaveNames es
    → AreEntryTrees (λ k. k) IsValueTree es ms
    → AreLawfulMembers ms × MeanFields ms before (before ++ es)
fields_mean before [] no_member s u h = (tt, append-nil before)
fields_mean before (e ∷ es) (member n j ms) s u h =
    let Sorted : Plain-Fields → Type 0 = λ l. IsStrictlySortedBy name_order (keys_of l) in
    let sorted = subst Sorted (sym (append_assoc before (e ∷ []) es)) s in
    let (lawful, means) = fields_mean (before ++ e ∷ []) es ms sorted u.1 h.2 in
    let above = above_before name_order nat_list_cmp_total before es e s in
    let P : Plain-Fields → Plain-Fields → Type 0 = λ l m. MeanFields ms l m in
    let put = subst (λ (l : Plain-Fields). P l ((before ++ e ∷ []) ++ es))
    (sym (put_last before e.0 e.1 above)) means in
    let Named : List ℕ → Type 0 = λ t. AreLawfulMembers (member t j ms)
    × MeanFields (member t j ms) before (before ++ e ∷ es) in
    subst Named (sym h.0) (
      (u.0.0, h.1.0, lawful),
      (
        e.1,
        h.1.1,
        new_name before e.0 above,
        subst (P (insert_entry name_order before e.0 e.1)) (append_assoc before (e ∷ []) es) put,
      ),
    )
fields_mean before [] (member n j ms) s u h = absurd h
fields_mean before (e ∷ es) no_member s u h = absurd h

pub fields_tree : (m : Plain-Fields) → IsStrictlySortedBy name_order (keys_of m) → HaveNames m
    → (json : Json) → IsMapTree (λ k. k) IsValueTree m json
    → IsValueTree (struct_value (struct_fields m)) json
fields_tree m s u json (ms, trees, is) =
    let (lawful, means) = fields_mean [] m ms s u trees in
    subst (IsValueTree (struct_value (struct_fields m))) (sym is) (lawful, (m, means, refl))

-- what holds of each name, and of each value
module _ (Q : List ℕ → Type 0) (P : Plain → Type 0) where
  abbrev pub Each : Plain-Fields → Type 0
  Each = AllByRecursion (λ e. Q e.0 × P e.1)

  each_placed : (e : List ℕ × Plain) (es : Plain-Fields) (k : List ℕ) (v : Plain) (o : Ordering)
      → Q k → P v → Q e.0 × P e.1 → Each es → Each (insert_entry name_order es k v)
      → Each (match_ordering o ((k, v) ∷ e ∷ es) ((e.0, v) ∷ es)
      (e ∷ insert_entry name_order es k v))
  each_placed e es k v Less q p first rest more = ((q, p), (first, rest))
  each_placed e es k v Equal q p first rest more = ((first.0, p), rest)
  each_placed e es k v Greater q p first rest more = (first, more)

  pub each_put : (es : Plain-Fields) (k : List ℕ) (v : Plain) → Q k → P v → Each es
      → Each (insert_entry name_order es k v)
  each_put [] k v q p h = ((q, p), tt)
  each_put (e ∷ es) k v q p h =
      each_placed e es k v (name_order k e.0) q p h.0 h.1 (each_put es k v q p h.1)

  pub each_held : (before es : Plain-Fields) → Each before → Each es → Each (put_fields before es)
  each_held before [] b h = b
  each_held before (e ∷ es) b h =
      each_held (insert_entry name_order before e.0 e.1) es
      (each_put before e.0 e.1 h.0.0 h.0.1 b) h.1

  pub each_at : (done left : Plain-Fields) (e : List ℕ × Plain) → Each (done ++ e ∷ left) → P e.1
  each_at [] left e h = h.0.1
  each_at (d ∷ done) left e h = each_at done left e h.1

abbrev AnyName : List ℕ → Type 0
AnyName name = Unit {0}

abbrev HasTree : Plain → Type 0
HasTree v = (json : Json) × IsValueTree v json

each_read : (ms : Members) (before after : Plain-Fields) → AreLawfulMembers ms
    → MeanFields ms before after → Each AnyName HasTree before → Each AnyName HasTree after
each_read no_member before after l h each = subst (Each AnyName HasTree) (sym h) each
each_read (member name e ms) before after l (v, means, new, rest) each =
    each_read ms (insert_entry name_order before name v) after l.2 rest
    (each_put AnyName HasTree before name v tt (e, (l.1, means)) each)

-- a struct with a field that has no tree has none
pub fields_untold : (m done left : Plain-Fields) (e : List ℕ × Plain) → m ≡ done ++ e ∷ left
    → HasNoTree IsValueTree e.1 → HasNoTree IsValueTree (struct_value (struct_fields m))
fields_untold m done left e is none (object ms) (lawful, (n, means, same)) =
    let all = each_read ms [] n lawful means tt in
    let here = subst (Each AnyName HasTree) (sym (same_fields m n same) ∙ is) all in
    let (json, tree) = each_at AnyName HasTree done left e here in
    none json tree
fields_untold m done left e is none null (lawful, same) = absurd cc
fields_untold m done left e is none (boolean b) (lawful, same) = absurd cc
fields_untold m done left e is none (number t) (lawful, (x, parses, finite, same)) = absurd cc
fields_untold m done left e is none (string s) (lawful, same) = absurd cc
fields_untold m done left e is none (array es) (lawful, (vs, means, same)) = absurd cc

-- ---- entries as they are held

module _ {S T K V : Type 0} (key : S → K) (value : T → V) (cmp : S → S → Ordering)
    (order : K → K → Ordering) (same : (x y : S) → cmp x y ≡ order (key x) (key y)) where
  below_seen : (k : S) (es : List (S × T)) → AllByRecursion (λ y. cmp k y ≡ Less) (keys_of es)
      → AllByRecursion (λ y. order (key k) y ≡ Less) (keys_of (entries_seen key value es))
  below_seen k [] h = tt
  below_seen k (e ∷ es) h = (sym (same k e.0) ∙ h.0, below_seen k es h.1)

  -- keys that ascend as they are held ascend as they are seen
  pub sorted_seen : (es : List (S × T)) → IsStrictlySortedBy cmp (keys_of es)
      → IsStrictlySortedBy order (keys_of (entries_seen key value es))
  unfolding IsStrictlySortedBy
  sorted_seen [] s = tt
  sorted_seen (e ∷ es) s = (below_seen e.0 es s.0, sorted_seen es s.1)

-- ---- kinds that are no lists and no structs

pub nothing_untold : HasNoTree IsValueTree nothing
nothing_untold null (lawful, is) = absurd cc
nothing_untold (boolean b) (lawful, is) = absurd cc
nothing_untold (number t) (lawful, (x, parses, finite, is)) = absurd cc
nothing_untold (string s) (lawful, is) = absurd cc
nothing_untold (array es) (lawful, (vs, means, is)) = absurd cc
nothing_untold (object ms) (lawful, (m, means, is)) = absurd cc

same_number : (x y : Float) → number_value x ≡ number_value y → x ≡ y
same_number x y h = cc

pub number_untold : (x : Float) → (IsTrue (float_is_finite x) → ⊥)
    → HasNoTree IsValueTree (number_value x)
number_untold x none (number t) (lawful, (y, parses, finite, is)) =
    none (subst (λ (z : Float). IsTrue (float_is_finite z)) (sym (same_number x y is)) finite)
number_untold x none null (lawful, is) = absurd cc
number_untold x none (boolean b) (lawful, is) = absurd cc
number_untold x none (string s) (lawful, is) = absurd cc
number_untold x none (array es) (lawful, (vs, means, is)) = absurd cc
number_untold x none (object ms) (lawful, (m, means, is)) = absurd cc

not_finite : false ≡ true → ⊥
not_finite h = absurd cc

pub number_tree : (x : Float) → IsTrue (float_is_finite x) → (json : Json)
    → IsFloatTree binary64 x json → IsValueTree (number_value x) json
unfolding float_is_finite
number_tree nan finite json tree = absurd (not_finite finite)
number_tree (inf true) finite json tree = absurd (not_finite finite)
number_tree (inf false) finite json tree = absurd (not_finite finite)
number_tree (fin s m e) finite json (text, is, spells, parses) =
    subst (IsValueTree (number_value (fin s m e))) (sym is)
    (spells, (fin s m e, parses, finite, refl))

-- a NaN is not finite
pub nan_untold : (x : Float) → x ≡ nan → IsTrue (float_is_finite x) → ⊥
unfolding float_is_finite
nan_untold nan is finite = not_finite finite
nan_untold (inf s) is finite = absurd cc
nan_untold (fin s m e) is finite = absurd cc

pub string_tree : (s : List ℕ) → IsUtf8 s → IsValueTree (string_value s) (string s)
string_tree s utf8 = (utf8, refl)

-- the name of an entry is text
name_is_text : (e : StructFieldsEntry) → IsUtf8 (entry-plain e).0
name_is_text e =
    let is = fold_out-StructFieldsEntry Plain (List Plain) Plain-Fields (List ℕ × Plain) Plain
    value_kind-step list_value-step struct-step entry-step value-step e in
    subst (λ (p : List ℕ × Plain). IsUtf8 p.0) (sym is) (IsUtf8-string_bytes (out-StructFieldsEntry e).key)

names_are_texts : (es : List StructFieldsEntry) → HaveNames (map entry-plain es)
names_are_texts [] = tt
names_are_texts (e ∷ es) = ((name_is_text e, tt), names_are_texts es)

-- so are the names of the fields
pub held_names : (es : List StructFieldsEntry) → HaveNames (held_fields es)
held_names es = each_held IsUtf8 AnyValue [] (map entry-plain es) tt (names_are_texts es)

-- ---- nesting

pub value_within : (done left : List Plain) (v : Plain)
    → nesting v ≤ values_nesting (values_of (done ++ v ∷ left))
value_within [] left v = omega arith
value_within (w ∷ done) left v =
    let deep = value_within done left v in
    omega (arith, deep)

pub field_within : (done left : Plain-Fields) (e : List ℕ × Plain)
    → nesting e.1 ≤ fields_nesting (struct_fields (done ++ e ∷ left))
field_within [] left e = omega arith
field_within (d ∷ done) left e =
    let deep = field_within done left e in
    omega (arith, deep)

-- what is never answered may have said anything
pub never_ok : {T E : Type 0} (r : Result T E) (P : Type 0) → OnOk r ⊥ → OnOk r P
never_ok (Ok x) P h = absurd h
never_ok (Err e) P h = tt
