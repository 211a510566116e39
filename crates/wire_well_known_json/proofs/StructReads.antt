-- What is read of a value, by its kind.
use Rattle.std.proofs.Common.{◌≡◌, ◌≢◌, ℕ, ◌≤◌, Bool, List, [], ◌∷◌, ◌++◌, drop, Some, Ok, Err, inl, inr, refl, sym, ap, ◌∙◌, subst, arith, append_assoc, append-nil}
use Rattle.std.specs.Prelude.{codes}
use Rattle.std.specs.Float.Parse.{parse_float}
use Rattle.wire_json.specs.Bytes.{word_end}
use Rattle.std.proofs.lemmas.Cmp.{nat_list_cmp_total}
use Rattle.std.specs.BTreeMap.{insert_entry}
use Rattle.std.specs.Float.{Float, binary64}
use Rattle.std.specs.List.Sorted.{IsStrictlySortedBy}
use Rattle.std.specs.Map.{keys_of}
use Rattle.wire_json.specs.declared.kind.Kind.{Kind}
use Rattle.wire_json.specs.declared.kind.Kind.TheVariants as kinds
use Rattle.wire_json.specs.Json.{Json, null, boolean, number, string, array, object, depth}
use Rattle.wire_json.specs.Json.{Elements, no_element, element, Members, no_member, member}
use Rattle.wire_json.specs.Kind.{kind_begun}
use Rattle.wire_json.specs.Reading.{ReadsValue}
use Rattle.wire_json.proofs.OneReading.{reads_shape, shape, shape_begun}
use Rattle.wire_jsonfields.specs.Ascending.{IsAboveEach, above_before, map_sorted}
use Rattle.wire_jsonfields.specs.Levels.{NothingMeant, ReadsWithin}
use Rattle.wire_jsonfields.specs.Lists.{EachMeans, ListMeans}
use Rattle.wire_jsonfields.specs.Maps.{IsNewKey, MapMeans, MembersPut}
use Rattle.wire_protojson.specs.Laws.{IsDecided}
use Rattle.wire_protojson.specs.Numbers.{MeansFloat}
use Rattle.wire_protojson.specs.Reads.{ReadsMeaning, RefusedAt, Refuses, UnlessNoMemory}
use Rattle.wire_protojson.specs.Scalars.{MeansBool, MeansString}
use Rattle.wire_protojson.specs.declared.refusal.ReadError.{ReadError}
use Rattle.wire_protojson.specs.declared.refusal.ReadError.TheVariants.{Refused, OutOfMemory}
use Rattle.wire_well_known_json.specs.OnePlain.{same_fields, same_values}
use Rattle.wire_well_known_json.specs.StructKinds.{MeansListValue, MeansStruct}
use Rattle.wire_well_known_json.specs.Structs.{Plain, null_value, number_value, string_value, bool_value, struct_value, list_value, values_of, struct_fields, Plain-Fields, name_order, IsName, MeansValue, MeanValues, MeanFields, put_fields}

-- ---- lists and maps of values

pub each_means : (es : Elements) (vs : List Plain) → EachMeans MeansValue es vs → MeanValues es vs
each_means no_element [] h = tt
each_means (element e es) (v ∷ vs) h = (h.0, each_means es vs h.1)
each_means no_element (v ∷ vs) h = absurd h
each_means (element e es) [] h = absurd h

pub means_each : (es : Elements) (vs : List Plain) → MeanValues es vs → EachMeans MeansValue es vs
means_each no_element [] h = tt
means_each (element e es) (v ∷ vs) h = (h.0, means_each es vs h.1)
means_each no_element (v ∷ vs) h = absurd h
means_each (element e es) [] h = absurd h

pub mean_fields : (ms : Members) (before after : Plain-Fields)
    → MembersPut name_order IsName MeansValue ms before after → MeanFields ms before after
mean_fields no_member before after h = h
mean_fields (member name e ms) before after (k, v, is, means, new, put) =
    let Rest : List ℕ → Type 0 = λ n. IsNewKey name_order n before
    × MembersPut name_order IsName MeansValue ms (insert_entry name_order before n v) after in
    let (fresh, rest) = subst Rest (sym is) (new, put) in
    (v, means, fresh, mean_fields ms (insert_entry name_order before name v) after rest)

pub fields_put : (ms : Members) (before after : Plain-Fields) → MeanFields ms before after
    → MembersPut name_order IsName MeansValue ms before after
fields_put no_member before after h = h
fields_put (member name e ms) before after (v, means, new, rest) = (
  name,
  v,
  refl,
  means,
  new,
  fields_put ms (insert_entry name_order before name v) after rest,
)

-- ---- by kinds

module _ (old : List ℕ) where
  pub shape_is : (kind : Kind) → kind_begun old ≡ Some kind → (json : Json) (new : List ℕ)
      → ReadsValue json old new → shape json ≡ shape_begun (Some kind)
  shape_is kind begun json new reads = sym (reads_shape json old new reads) ∙ ap shape_begun begun

  module _ (levels : ℕ) where
    pub list_within : (vs : List Plain) (new : List ℕ)
        → ReadsWithin levels (ListMeans MeansValue) old vs new
        → ReadsWithin levels MeansValue old (list_value (values_of vs)) new
    list_within vs new (array es, reads, fits, means) =
        (array es, reads, fits, (vs, each_means es vs means, refl))
    list_within vs new (null, reads, fits, means) = absurd means
    list_within vs new (boolean b, reads, fits, means) = absurd means
    list_within vs new (number t, reads, fits, means) = absurd means
    list_within vs new (string b, reads, fits, means) = absurd means
    list_within vs new (object ms, reads, fits, means) = absurd means

    pub fields_within : (m : Plain-Fields) (new : List ℕ)
        → ReadsWithin levels (MapMeans name_order IsName MeansValue) old m new
        → ReadsWithin levels MeansValue old (struct_value (struct_fields m)) new
    fields_within m new (object ms, reads, fits, put) =
        (object ms, reads, fits, (m, mean_fields ms [] m put, refl))
    fields_within m new (null, reads, fits, means) = absurd means
    fields_within m new (boolean b, reads, fits, means) = absurd means
    fields_within m new (number t, reads, fits, means) = absurd means
    fields_within m new (string b, reads, fits, means) = absurd means
    fields_within m new (array es, reads, fits, means) = absurd means

    pub no_list : kind_begun old ≡ Some kinds.Array
        → NothingMeant levels (ListMeans MeansValue) old → NothingMeant levels MeansValue old
    no_list begun nothing = λ v new read. none read.0 v new read.1 read.2 read.3
      where
        none : (json : Json) (v : Plain) (new : List ℕ) → ReadsValue json old new
            → depth json ≤ levels → MeansValue json v → ⊥
        none (array es) v new reads fits (vs, means, is) =
            nothing vs new (array es, reads, fits, means_each es vs means)
        none null v new reads fits means =
            absurd (omega (arith, shape_is kinds.Array begun null new reads))
        none (boolean b) v new reads fits means =
            absurd (omega (arith, shape_is kinds.Array begun (boolean b) new reads))
        none (number t) v new reads fits means =
            absurd (omega (arith, shape_is kinds.Array begun (number t) new reads))
        none (string b) v new reads fits means =
            absurd (omega (arith, shape_is kinds.Array begun (string b) new reads))
        none (object ms) v new reads fits means =
            absurd (omega (arith, shape_is kinds.Array begun (object ms) new reads))

    pub no_fields : kind_begun old ≡ Some kinds.Object
        → NothingMeant levels (MapMeans name_order IsName MeansValue) old
        → NothingMeant levels MeansValue old
    no_fields begun nothing = λ v new read. none read.0 v new read.1 read.2 read.3
      where
        none : (json : Json) (v : Plain) (new : List ℕ) → ReadsValue json old new
            → depth json ≤ levels → MeansValue json v → ⊥
        none (object ms) v new reads fits (m, means, is) =
            nothing m new (object ms, reads, fits, fields_put ms [] m means)
        none null v new reads fits means =
            absurd (omega (arith, shape_is kinds.Object begun null new reads))
        none (boolean b) v new reads fits means =
            absurd (omega (arith, shape_is kinds.Object begun (boolean b) new reads))
        none (number t) v new reads fits means =
            absurd (omega (arith, shape_is kinds.Object begun (number t) new reads))
        none (string b) v new reads fits means =
            absurd (omega (arith, shape_is kinds.Object begun (string b) new reads))
        none (array es) v new reads fits means =
            absurd (omega (arith, shape_is kinds.Object begun (array es) new reads))

    -- where nothing begins, nothing is read
    pub none_begun : shape_begun (kind_begun old) ≡ 6 → NothingMeant levels MeansValue old
    none_begun begun = λ v new read. none read.0 new read.1
      where
        none : (json : Json) (new : List ℕ) → ReadsValue json old new → ⊥
        none json new reads =
            absurd (omega (arith, small json, sym (reads_shape json old new reads) ∙ begun))
          where
            small : (j : Json) → shape j ≢ 6
            small null = λ h. omega (arith, h)
            small (boolean b) = λ h. omega (arith, h)
            small (number t) = λ h. omega (arith, h)
            small (string b) = λ h. omega (arith, h)
            small (array es) = λ h. omega (arith, h)
            small (object ms) = λ h. omega (arith, h)

-- ---- scalars

module _ {V : Type 0} (Means : Json → V → Type 0) (d : IsDecided Means) (text old : List ℕ) where
  pub scalar_refused : ((json : Json) (v : Plain) (new : List ℕ) → ReadsValue json old new
      → MeansValue json v → (w : V) × Means json w) → (e : ReadError)
      → UnlessNoMemory e (λ refusal. RefusedAt text refusal (Refuses Means old))
      → e ≢ OutOfMemory → (levels : ℕ) → NothingMeant levels MeansValue old
  scalar_refused by (Refused refusal) h other levels = λ v new read.
      let (w, m) = by read.0 v new read.1 read.3 in
      d.no_value_refused old w new refusal.reason (drop refusal.at text) (read.0, read.1, m) h
  scalar_refused by OutOfMemory h other levels = absurd (other refl)

module _ (old : List ℕ) where
  pub bool_within : (b : Bool) (new : List ℕ) → ReadsMeaning MeansBool old b new
      → ReadsWithin 0 MeansValue old (bool_value b) new
  bool_within b new (boolean c, reads, is) =
      (boolean c, reads, omega arith, ap bool_value (sym is))
  bool_within b new (null, reads, m) = absurd m
  bool_within b new (number t, reads, m) = absurd m
  bool_within b new (string s, reads, m) = absurd m
  bool_within b new (array es, reads, m) = absurd m
  bool_within b new (object ms, reads, m) = absurd m

  pub string_within : (s : List ℕ) (new : List ℕ) → ReadsMeaning MeansString old s new
      → ReadsWithin 0 MeansValue old (string_value s) new
  string_within s new (string t, reads, is) =
      (string t, reads, omega arith, ap string_value (sym is))
  string_within s new (null, reads, m) = absurd m
  string_within s new (boolean b, reads, m) = absurd m
  string_within s new (number t, reads, m) = absurd m
  string_within s new (array es, reads, m) = absurd m
  string_within s new (object ms, reads, m) = absurd m

  pub null_within : (new : List ℕ) → word_end (codes "null") old ≡ Ok new
      → ReadsWithin 0 MeansValue old null_value new
  null_within new reads = (null, reads, omega arith, refl)

  module _ (begun : shape_begun (kind_begun old) ≡ 0) where
    pub null_refused : (left : List ℕ) → word_end (codes "null") old ≡ Err left → (levels : ℕ)
        → NothingMeant levels MeansValue old
    null_refused left fault levels = λ v new read. none read.0 new read.1
      where
        unlike : (new : List ℕ) → Err left ≡ Ok new → ⊥
        unlike new h = absurd cc

        none : (json : Json) (new : List ℕ) → ReadsValue json old new → ⊥
        none null new reads = unlike new (sym fault ∙ reads)
        none (boolean b) new reads =
            absurd (omega (arith, begun, reads_shape (boolean b) old new reads))
        none (number t) new reads =
            absurd (omega (arith, begun, reads_shape (number t) old new reads))
        none (string s) new reads =
            absurd (omega (arith, begun, reads_shape (string s) old new reads))
        none (array es) new reads =
            absurd (omega (arith, begun, reads_shape (array es) old new reads))
        none (object ms) new reads =
            absurd (omega (arith, begun, reads_shape (object ms) old new reads))

  pub as_bool : shape_begun (kind_begun old) ≡ 1 → (json : Json) (v : Plain) (new : List ℕ)
      → ReadsValue json old new → MeansValue json v → (b : Bool) × MeansBool json b
  as_bool begun (boolean b) v new reads m = (b, refl)
  as_bool begun null v new reads m =
      absurd (omega (arith, begun, reads_shape null old new reads))
  as_bool begun (number t) v new reads m =
      absurd (omega (arith, begun, reads_shape (number t) old new reads))
  as_bool begun (string s) v new reads m =
      absurd (omega (arith, begun, reads_shape (string s) old new reads))
  as_bool begun (array es) v new reads m =
      absurd (omega (arith, begun, reads_shape (array es) old new reads))
  as_bool begun (object ms) v new reads m =
      absurd (omega (arith, begun, reads_shape (object ms) old new reads))

  pub as_string : shape_begun (kind_begun old) ≡ 3 → (json : Json) (v : Plain) (new : List ℕ)
      → ReadsValue json old new → MeansValue json v → (s : List ℕ) × MeansString json s
  as_string begun (string s) v new reads m = (s, refl)
  as_string begun null v new reads m =
      absurd (omega (arith, begun, reads_shape null old new reads))
  as_string begun (boolean b) v new reads m =
      absurd (omega (arith, begun, reads_shape (boolean b) old new reads))
  as_string begun (number t) v new reads m =
      absurd (omega (arith, begun, reads_shape (number t) old new reads))
  as_string begun (array es) v new reads m =
      absurd (omega (arith, begun, reads_shape (array es) old new reads))
  as_string begun (object ms) v new reads m =
      absurd (omega (arith, begun, reads_shape (object ms) old new reads))

  module _ (begun : shape_begun (kind_begun old) ≡ 2) where
    pub as_number : (json : Json) (v : Plain) (new : List ℕ) → ReadsValue json old new
        → MeansValue json v → (x : Float) × MeansFloat binary64 json x
    as_number (number t) v new reads (x, parses, finite, is) = (x, inr (t, refl, parses, finite))
    as_number null v new reads m = absurd (omega (arith, begun, reads_shape null old new reads))
    as_number (boolean b) v new reads m =
        absurd (omega (arith, begun, reads_shape (boolean b) old new reads))
    as_number (string s) v new reads m =
        absurd (omega (arith, begun, reads_shape (string s) old new reads))
    as_number (array es) v new reads m =
        absurd (omega (arith, begun, reads_shape (array es) old new reads))
    as_number (object ms) v new reads m =
        absurd (omega (arith, begun, reads_shape (object ms) old new reads))

    number_means : (t : List ℕ) (x : Float) → MeansFloat binary64 (number t) x
        → MeansValue (number t) (number_value x)
    number_means t x (inl word) = absurd word
    number_means t x (inr (text, is, parses, finite)) =
        (x, ap (parse_float binary64) is ∙ parses, finite, refl)

    pub number_within : (x : Float) (new : List ℕ) → ReadsMeaning (MeansFloat binary64) old x new
        → ReadsWithin 0 MeansValue old (number_value x) new
    number_within x new (number t, reads, m) =
        (number t, reads, omega arith, number_means t x m)
    number_within x new (null, reads, m) =
        absurd (omega (arith, begun, reads_shape null old new reads))
    number_within x new (boolean b, reads, m) =
        absurd (omega (arith, begun, reads_shape (boolean b) old new reads))
    number_within x new (string s, reads, m) =
        absurd (omega (arith, begun, reads_shape (string s) old new reads))
    number_within x new (array es, reads, m) =
        absurd (omega (arith, begun, reads_shape (array es) old new reads))
    number_within x new (object ms, reads, m) =
        absurd (omega (arith, begun, reads_shape (object ms) old new reads))

-- ---- fields in the order of their names

-- an entry whose name is above all others is put behind them
pub put_last : (m : Plain-Fields) (k : List ℕ) (v : Plain)
    → IsAboveEach name_order nat_list_cmp_total k m
    → insert_entry name_order m k v ≡ m ++ (k, v) ∷ []
put_last [] k v h = refl
put_last (e ∷ es) k v h =
    rw h.0 (ap (λ (l : Plain-Fields). e ∷ l) (put_last es k v h.1))

-- entries that ascend are put behind one another
put_ascending : (before es : Plain-Fields)
    → IsStrictlySortedBy name_order (keys_of (before ++ es)) → put_fields before es ≡ before ++ es
put_ascending before [] s = sym (append-nil before)
put_ascending before (e ∷ es) s =
    let Sorted : Plain-Fields → Type 0 = λ l. IsStrictlySortedBy name_order (keys_of l) in
    let above = above_before name_order nat_list_cmp_total before es e s in
    let sorted = subst Sorted (sym (append_assoc before (e ∷ []) es)) s in
    ap (λ (l : Plain-Fields). put_fields l es)
    (put_last before e.0 e.1 above)
    ∙ put_ascending (before ++ e ∷ []) es sorted ∙ append_assoc before (e ∷ []) es

-- so those that are read of an object are the fields of a struct as they stand
pub fields_stand : (ms : Members) (m : Plain-Fields)
    → MembersPut name_order IsName MeansValue ms [] m → put_fields [] m ≡ m
fields_stand ms m put =
    put_ascending [] m
    (map_sorted name_order nat_list_cmp_total IsName MeansValue (object ms) m put)

-- an entry more is put behind those before it
pub entries_more : (all before here left : Plain-Fields) (e : List ℕ × Plain) (new : Plain-Fields)
    → all ≡ before ++ here → here ≡ e ∷ left → new ≡ before ++ e ∷ [] → all ≡ new ++ left
entries_more all before here left e new p q r =
    p ∙ ap (λ (l : Plain-Fields). before ++ l) q ∙ sym (append_assoc before (e ∷ []) left)
    ∙ ap (λ (l : Plain-Fields). l ++ left) (sym r)

-- ---- a struct and a list by themselves

put_of : (json : Json) (m : Plain-Fields) → MeansStruct json m
    → MapMeans name_order IsName MeansValue json m
put_of (object ms) m (n, means, is) =
    subst (MembersPut name_order IsName MeansValue ms []) (sym (same_fields m n is))
    (fields_put ms [] n means)
put_of null m is = absurd cc
put_of (boolean b) m is = absurd cc
put_of (number t) m (x, parses, finite, is) = absurd cc
put_of (string s) m is = absurd cc
put_of (array es) m (vs, means, is) = absurd cc

each_of : (json : Json) (vs : List Plain) → MeansListValue json vs → ListMeans MeansValue json vs
each_of (array es) vs (ws, means, is) =
    subst (EachMeans MeansValue es) (sym (same_values vs ws is)) (means_each es ws means)
each_of null vs is = absurd cc
each_of (boolean b) vs is = absurd cc
each_of (number t) vs (x, parses, finite, is) = absurd cc
each_of (string s) vs is = absurd cc
each_of (object ms) vs (m, means, is) = absurd cc

pub no_struct : (levels : ℕ) (old : List ℕ)
    → NothingMeant levels (MapMeans name_order IsName MeansValue) old
    → NothingMeant levels MeansStruct old
no_struct levels old nothing = λ m new read.
    nothing m new (read.0, read.1, read.2, put_of read.0 m read.3)

pub no_list_value : (levels : ℕ) (old : List ℕ) → NothingMeant levels (ListMeans MeansValue) old
    → NothingMeant levels MeansListValue old
no_list_value levels old nothing = λ vs new read.
    nothing vs new (read.0, read.1, read.2, each_of read.0 vs read.3)
