-- A `Node` as a table: it has the records of its table, and makes of a record what the table does.
use Rattle.std.proofs.Common.{◌≡◌, inl, inr, ℕ, zero, suc, List, [], ◌∷◌, ◌++◌, map, ◌-◌, ◌*◌, refl, sym, ap, ◌∙◌, subst, arith}
use Rattle.std.proofs.lemmas.Bool.Decides.{eqb_tells}
use Rattle.std.specs.Prelude.{ℤ, pos, negsuc, Bool, false, ◌==◌}
use Rattle.wire_codec.specs.Charge.{payload_charge}
use Rattle.wire_codec.specs.Field.{Payload, bytes, Fields, field, push}
use Rattle.wire_codec.specs.Field as grammar
use Rattle.wire_codec.specs.Folds.{Step, Folds}
use Rattle.wire_codec.specs.Limits.{Charge, no_charge, nested, both, element_of}
use Rattle.wire_codec.specs.Records as records
use Rattle.wire_codec.specs.Records.{Records, joined_records, of_fields}
use Rattle.wire_codec.specs.TakingLaws.{OneReading}
use Rattle.wire_codec.specs.ValueMap.{sint64}
use Rattle.wire_fields.specs.Arms.{unlike}
use Rattle.wire_fields.specs.declared.form.Form.TheVariants.{Varint}
use Rattle.wire_fields.specs.declared.recursive.Place.TheVariants.{Leaf, Once, Each, Grouped}
use Rattle.wire_fields.specs.Least.{rolled, up_to}
use Rattle.wire_fields.specs.Messages.{inside, length_prefixed, delimited}
use Rattle.wire_fields.specs.Nest as nests
use Rattle.wire_fields.specs.Nest.{Nest, nest, Row, Rows, row, done, end, row_of, same_nest}
use Rattle.wire_fields.specs.NestTable.{nest_records, row_records, nest_takes, level, takes_at}
use Rattle.wire_fields.specs.NestTable.{alone, family_takes}
use Rattle.wire_fields.specs.NestTable.{if_number, grows, one_of, with_one, with_more}
use Rattle.wire_fields.specs.Numbers.{numeric}
use Rattle.wire_fields.specs.Presence.{implicit_records, sets}
use Rattle.wire_fields.specs.Shape.{on, keeps, same_pair}
use Rattle.wire_samples.proofs.PersonTable.{some, number_set, number_back}
use Rattle.wire_samples.specs.FieldRecords.{sint64_field}
use Rattle.wire_samples.specs.FieldSteps.{SetsSint64}
use Rattle.wire_samples.specs.declared.node.Node.{Node}
use Rattle.wire_samples.specs.Node.{node_value, node_list}
use Rattle.wire_samples.specs.Node.{NodeValue, node, MaybeNode, absent, present, NodeList, empty}
use Rattle.wire_samples.specs.Node.{ahead, appended, default_node, or_default, child_of, own_group}
use Rattle.wire_samples.specs.Node.{unknown_of, with_value, with_child, with_another, with_group}
use Rattle.wire_samples.specs.Node.{keeping, node_records, child_record, children_records}
use Rattle.wire_samples.specs.Node.{group_record, IsNodeOther}
use Rattle.wire_samples.specs.NodeSteps.{NodeTakes, value, child, another, grouped, unknown}
use Rattle.wire_samples.specs.NodeSteps.{NodeMerges, merged, NodeFolds, no_more, one_more}
use Rattle.wire_samples.specs.NodeTable.{NodeNest, NodeLeaf, as_nest, maybe_row, list_row, node_leaf}
use Rattle.wire_samples.specs.NodeTable.{node_place, node_table, node_nest}

-- ---- records

value_same : (v : ℤ) → implicit_records (numeric Varint sint64) 1 v ≡ sint64_field 1 v
value_same (pos zero) = refl
value_same (pos (suc k)) = some (2 * suc k) _ (λ e. omega (arith, e))
value_same (negsuc k) = some (2 * suc k - 1) _ (λ e. omega (arith, e))

nothing_behind : (rs : Records) → joined_records rs records.none ≡ rs
nothing_behind records.none = refl
nothing_behind (records.field n p rest) = ap (records.field n p) (nothing_behind rest)

mutual
  pub same_records : (m : NodeValue) → nest_records node_table (as_nest m) ≡ node_records m
  same_records (node v kid kids own fs) = rw (
    value_same v,
    child_same kid,
    children_same kids,
    group_same own,
    nothing_behind (of_fields fs),
  ) refl

  child_same : (m : MaybeNode) → row_records (alone node_table) tt length_prefixed 2 (maybe_row m)
      ≡ child_record m
  child_same absent = refl
  child_same (present m) =
      ap (λ (rs : Records). records.field 2 (records.embedded rs) records.none) (same_records m)

  children_same : (ms : NodeList) → row_records (alone node_table) tt length_prefixed 3
      (list_row ms) ≡ children_records ms
  children_same empty = refl
  children_same (ahead m ms) =
      ap (λ (rs : Records). records.field 3 (records.embedded rs)
      (row_records (alone node_table) tt length_prefixed 3 (list_row ms))) (same_records m)
      ∙ ap (records.field 3 (records.embedded (node_records m))) (children_same ms)

  group_same : (m : MaybeNode) → row_records (alone node_table) tt delimited 4 (maybe_row m)
      ≡ group_record m
  group_same absent = refl
  group_same (present m) =
      ap (λ (rs : Records). records.field 4 (records.group rs) records.none) (same_records m)

-- ---- values

abbrev mutual
  of_nest : NodeNest → NodeValue
  of_nest (nest l rows) = of_rows l rows

  of_rows : NodeLeaf → Rows NodeLeaf → NodeValue
  of_rows l done = default_node
  of_rows l (row a done) = default_node
  of_rows l (row a (row b done)) = default_node
  of_rows l (row a (row b (row c more))) = node l.0 (maybe_of a) (list_of b) (maybe_of c) l.1

  maybe_of : Row NodeLeaf → MaybeNode
  maybe_of end = absent
  maybe_of (nests.ahead m ms) = present (of_nest m)

  list_of : Row NodeLeaf → NodeList
  list_of end = empty
  list_of (nests.ahead m ms) = ahead (of_nest m) (list_of ms)

mutual
  as_it_was : (m : NodeValue) → of_nest (as_nest m) ≡ m
  as_it_was (node v kid kids own fs) =
      rw (maybe_as_it_was kid, list_as_it_was kids, maybe_as_it_was own) refl

  maybe_as_it_was : (m : MaybeNode) → maybe_of (maybe_row m) ≡ m
  maybe_as_it_was absent = refl
  maybe_as_it_was (present m) = ap present (as_it_was m)

  list_as_it_was : (ms : NodeList) → list_of (list_row ms) ≡ ms
  list_as_it_was empty = refl
  list_as_it_was (ahead m ms) = rw (as_it_was m, list_as_it_was ms) refl

pub same_value : (m z : NodeValue) → as_nest m ≡ as_nest z → m ≡ z
same_value m z e = sym (as_it_was m) ∙ ap of_nest e ∙ as_it_was z

child_start : (m : NodeValue) → one_of node_table 0 (as_nest m) ≡ as_nest (or_default (child_of m))
child_start (node v absent kids own fs) = refl
child_start (node v (present m) kids own fs) = refl

group_start : (m : NodeValue) → one_of node_table 2 (as_nest m) ≡ as_nest (or_default (own_group m))
group_start (node v kid kids absent fs) = refl
group_start (node v kid kids (present m) fs) = refl

child_put : (m z : NodeValue)
    → with_one node_table 0 (as_nest m) (as_nest z) ≡ as_nest (with_child m z)
child_put (node v kid kids own fs) z = refl

group_put : (m z : NodeValue)
    → with_one node_table 2 (as_nest m) (as_nest z) ≡ as_nest (with_group m z)
group_put (node v kid kids own fs) z = refl

row_more : (ms : NodeList) (z : NodeValue)
    → row_of (nests.listed (list_row ms) ++ as_nest z ∷ []) ≡ list_row (appended ms z)
row_more empty z = refl
row_more (ahead m ms) z = ap (nests.ahead (as_nest m)) (row_more ms z)

another_put : (m z : NodeValue) → with_more 1 (as_nest m) (as_nest z) ≡ as_nest (with_another m z)
another_put (node v kid kids own fs) z =
    ap (λ (r : Row NodeLeaf). nest (v, fs)
    (row (maybe_row kid) (row r (row (maybe_row own) done)))) (row_more kids z)

-- ---- the children, as they are held

pub list_listed : (ns : List Node)
    → nests.listed (list_row (node_list (map node_value ns))) ≡ map node_nest ns
list_listed [] = refl
list_listed (n ∷ ns) = ap (λ (ms : List NodeNest). node_nest n ∷ ms) (list_listed ns)

children_pushed : (ns ks : List Node) (n : Node) → ks ≡ ns ++ n ∷ []
    → list_row (node_list (map node_value ks))
    ≡ row_of (nests.listed (list_row (node_list (map node_value ns))) ++ node_nest n ∷ [])
children_pushed ns ks n is =
    ap (λ (xs : List Node). list_row (node_list (map node_value xs))) is ∙ pushed ns
  where
    pushed : (xs : List Node) → list_row (node_list (map node_value (xs ++ n ∷ [])))
        ≡ row_of (nests.listed (list_row (node_list (map node_value xs))) ++ node_nest n ∷ [])
    pushed [] = refl
    pushed (x ∷ xs) = ap (nests.ahead (node_nest x)) (pushed xs)

pub children_set : (v : ℤ) (kid : MaybeNode) (ns ks : List Node) (own : MaybeNode) (fs : Fields)
    (n : Node) → ks ≡ ns ++ n ∷ []
    → as_nest (node v kid (node_list (map node_value ks)) own fs)
    ≡ with_more 1 (as_nest (node v kid (node_list (map node_value ns)) own fs)) (node_nest n)
children_set v kid ns ks own fs n is =
    ap (λ (r : Row NodeLeaf). nest (v, fs)
    (row (maybe_row kid) (row r (row (maybe_row own) done)))) (children_pushed ns ks n is)

-- ---- the place of a number that the type does not know

no_place : (a b d : Bool) → a ≡ false → b ≡ false → d ≡ false
    → if_number a (Once 0) (if_number b (Each 1 64) (if_number d (Grouped 2) Leaf)) ≡ Leaf
no_place a b d h k j = rw (h, k, j) refl

other_place : (n : ℕ) → IsNodeOther n → node_place n ≡ Leaf
other_place n is =
    no_place (n == 2) (n == 3) (n == 4) (unlike n 2 is.child) (unlike n 3 is.children)
    (unlike n 4 is.group)

-- ---- what the node takes, the table takes

module _ (step : Step NodeNest) where
  value_level : (m : NodeValue) (v : ℤ) (p : Payload) (c : Charge) → SetsSint64 p v → c ≡ no_charge
      → level (alone node_table) (λ s. step) tt (as_nest m) 1 p c (as_nest (with_value m v))
  value_level (node w kid kids own fs) v p c made charged =
      (((charged, number_back sint64 p v made), refl), refl)

  unknown_level : (m : NodeValue) (n : ℕ) (p : Payload) (c : Charge) → IsNodeOther n
      → c ≡ payload_charge p
      → level (alone node_table) (λ s. step) tt (as_nest m) n p c (as_nest (keeping m (push
      (unknown_of m) n p)))
  unknown_level (node w kid kids own fs) n p c is charged =
      rw (other_place n is, unlike n 1 is.value) (((charged, refl), refl), refl)

module _ (reading : OneReading) where
  abbrev takes : Step NodeNest
  takes = nest_takes node_table

  abbrev climbs : (m z : NodeNest) (n : ℕ) (p : Payload) (c : Charge)
      → level (alone node_table) (family_takes (alone node_table)) tt m n p c z → takes m n p c z
  climbs =
      rolled (level (alone node_table))
      (grows (alone node_table) reading (λ s. node_leaf.single reading)) tt

  mutual
    pub in_nest : {m z : NodeValue} {n : ℕ} {p : Payload} {c : Charge} → NodeTakes m n p c z
        → takes (as_nest m) n p c (as_nest z)
    in_nest {m} {z} {n} {p} {c} (value v n_is made charged is) = climbs _ _ _ _ _
        (rw (n_is, is) (value_level takes m v p c made charged))
    in_nest {m} {z} {n} {p} {c} (child b within after n_is p_is merges charged is) =
        climbs _ _ _ _ _ (rw (n_is, is) (
          as_nest after,
          c,
          rw (child_start m, charged) (merges_in 2 b p_is merges),
          refl,
          sym (child_put m after),
        ))
    in_nest {m} {z} {n} {p} {c} (another b within after n_is p_is merges charged is) =
        climbs _ _ _ _ _ (rw (n_is, is) (
          as_nest after,
          nested within,
          merges_in 3 b p_is merges,
          charged,
          sym (another_put m after),
        ))
    in_nest {m} {z} {n} {p} {c} (grouped fs within after n_is p_is folds charged is) =
        climbs _ _ _ _ _ (rw (n_is, is) (
          as_nest after,
          c,
          rw (group_start m) (fs, within, p_is, folds_in folds, charged),
          refl,
          sym (group_put m after),
        ))
    in_nest {m} {z} {n} {p} {c} (unknown other charged is) = climbs _ _ _ _ _
        (rw is (unknown_level takes m n p c other charged))

    merges_in : {m z : NodeValue} (n : ℕ) {p : Payload} (b : List ℕ) {c : Charge} → p ≡ bytes b
        → NodeMerges m b c z → inside length_prefixed takes (as_nest m) n p (nested c) (as_nest z)
    merges_in n b p_is (merged fs short spelled folds) = (
      fs,
      _,
      record { text = b; is = p_is; short = short; spelled = spelled },
      folds_in folds,
      refl,
    )

    folds_in : {m z : NodeValue} {fs : Fields} {c : Charge} → NodeFolds m fs c z
        → Folds takes (as_nest m) fs c (as_nest z)
    folds_in (no_more fs_is charged is) = rw fs_is (charged, ap as_nest is)
    folds_in (one_more n p others mid first rest fs_is step more sum) =
        rw fs_is (as_nest mid, first, rest, in_nest step, folds_in more, sum)

-- ---- what the table takes, the node takes

-- a value that the table makes is that of a node
pub record Made (y : NodeNest) (Makes : NodeValue → Type 0) : Type 0 where
  pub value : NodeValue
  pub is : y ≡ as_nest value
  pub makes : Makes value

abbrev StepBack : Step NodeNest → Type 0
StepBack step =
    (m : NodeValue) (n : ℕ) (p : Payload) (c : Charge) (y : NodeNest) → step (as_nest m) n p c y
    → Made y (NodeTakes m n p c)

module _ (step : Step NodeNest) (back : StepBack step) where
  folds_back : (m : NodeValue) (fs : Fields) (c : Charge) (y : NodeNest)
      → Folds step (as_nest m) fs c y → Made y (NodeFolds m fs c)
  folds_back m grammar.none c y h =
      record { value = m; is = h.1; makes = no_more refl h.0 refl }
  folds_back m (field n p others) c y (mid, first, rest, taken, more, sum) =
      let one = back m n p first mid taken in
      let all = folds_back one.value others rest y
      (subst (λ x. Folds step x others rest y) one.is more) in
      record {
        value = all.value;
        is = all.is;
        makes = one_more n p others one.value first rest refl one.makes all.makes sum;
      }

  at_value : (m : NodeValue) (p : Payload) (c : Charge) (y : NodeNest)
      → level (alone node_table) (λ s. step) tt (as_nest m) 1 p c y → Made y (NodeTakes m 1 p c)
  at_value (node w kid kids own fs) p c (nest l rows) (((charged, made), same), rows_is) = record {
    value = node l.0 kid kids own fs;
    is = same_nest (nest l rows) (as_nest (node l.0 kid kids own fs))
        (same_pair l (l.0, fs) refl same) rows_is;
    makes = value l.0 refl (number_set sint64 p l.0 made) charged refl;
  }

  at_child : (m : NodeValue) (p : Payload) (c : Charge) (y : NodeNest)
      → level (alone node_table) (λ s. step) tt (as_nest m) 2 p c y → Made y (NodeTakes m 2 p c)
  at_child m p c y (after, one, (fs, within, has, folds, priced), charged, is) =
      let all = folds_back (or_default (child_of m)) fs within after
      (subst (λ x. Folds step x fs within after) (child_start m) folds) in
      record {
        value = with_child m all.value;
        is = is ∙ ap (with_one node_table 0 (as_nest m)) all.is ∙ child_put m all.value;
        makes = child has.text within all.value refl has.is
            (merged fs has.short has.spelled all.makes) (charged ∙ priced) refl;
      }

  at_another : (m : NodeValue) (p : Payload) (c : Charge) (y : NodeNest)
      → level (alone node_table) (λ s. step) tt (as_nest m) 3 p c y → Made y (NodeTakes m 3 p c)
  at_another m p c y (after, one, (fs, within, has, folds, priced), charged, is) =
      let all = folds_back default_node fs within after folds in
      record {
        value = with_another m all.value;
        is = is ∙ ap (with_more 1 (as_nest m)) all.is ∙ another_put m all.value;
        makes = another has.text within all.value refl has.is
            (merged fs has.short has.spelled all.makes)
            (charged ∙ ap (both (element_of 64)) priced) refl;
      }

  at_group : (m : NodeValue) (p : Payload) (c : Charge) (y : NodeNest)
      → level (alone node_table) (λ s. step) tt (as_nest m) 4 p c y → Made y (NodeTakes m 4 p c)
  at_group m p c y (after, one, (fs, within, has, folds, priced), charged, is) =
      let all = folds_back (or_default (own_group m)) fs within after
      (subst (λ x. Folds step x fs within after) (group_start m) folds) in
      record {
        value = with_group m all.value;
        is = is ∙ ap (with_one node_table 2 (as_nest m)) all.is ∙ group_put m all.value;
        makes = grouped fs within all.value refl has all.makes (charged ∙ priced) refl;
      }

  at_other : (m : NodeValue) (n : ℕ) (p : Payload) (c : Charge) (y : NodeNest) → IsNodeOther n
      → level (alone node_table) (λ s. step) tt (as_nest m) n p c y → Made y (NodeTakes m n p c)
  at_other (node w kid kids own fs) n p c (nest l rows) is h =
      let (kept, rows_is) = subst (λ x. takes_at (alone node_table) (λ s. step) tt x
      (as_nest (node w kid kids own fs)) n p c (nest l rows)) (other_place n is) h in
      let ((charged, pushed), same) = subst (λ b. on b
      (sets (numeric Varint sint64) w n p c l.0 × (l.1 ≡ fs)) (keeps fs n p c l.1 × (l.0 ≡ w)))
      (unlike n 1 is.value) kept in
      record {
        value = node w kid kids own (push fs n p);
        is = same_nest (nest l rows) (as_nest (node w kid kids own (push fs n p)))
            (same_pair l (w, push fs n p) same pushed) rows_is;
        makes = unknown is charged refl;
      }

  level_back : StepBack (level (alone node_table) (λ s. step) tt)
  level_back m n p c y h = elim (eqb_tells n 1) [
    | inl e ↦ moved 1 e.1 (at_value m p c y)
    | inr one ↦ elim (eqb_tells n 2) [
      | inl e ↦ moved 2 e.1 (at_child m p c y)
      | inr two ↦ elim (eqb_tells n 3) [
        | inl e ↦ moved 3 e.1 (at_another m p c y)
        | inr three ↦ elim (eqb_tells n 4) [
          | inl e ↦ moved 4 e.1 (at_group m p c y)
          | inr four ↦ at_other m n p c y (record {
            value = one.1;
            child = two.1;
            children = three.1;
            group = four.1;
          }) h
        ]
      ]
    ]
  ]
    where
      moved : (k : ℕ) → n ≡ k
          → (level (alone node_table) (λ s. step) tt (as_nest m) k p c y → Made y
          (NodeTakes m k p c))
          → Made y (NodeTakes m n p c)
      moved k e f = subst (λ x. Made y (NodeTakes m x p c)) (sym e)
          (f (subst (λ x. level (alone node_table) (λ s. step) tt (as_nest m) x p c y) e h))

up_back : (h : ℕ) → StepBack (up_to (level (alone node_table)) h tt)
up_back zero m n p c y h = absurd h
up_back (suc h) m n p c y taken =
    level_back (up_to (level (alone node_table)) h tt) (up_back h) m n p c y taken

pub from_nest : (m z : NodeValue) (n : ℕ) (p : Payload) (c : Charge)
    → nest_takes node_table (as_nest m) n p c (as_nest z) → NodeTakes m n p c z
from_nest m z n p c (h, taken) =
    let made = up_back h m n p c (as_nest z) taken in
    subst (λ x. NodeTakes m n p c x) (sym (same_value z made.value made.is)) made.makes
