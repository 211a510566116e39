-- What is written of a `Rule` is read back, also of one whose test is a rule.
use Rattle.std.proofs.Common.{◌≡◌, ◌⊎◌, inl, inr, ℕ, zero, suc, List, [], ◌∷◌, refl, sym, ap, ◌∙◌, subst, arith}
use Rattle.std.specs.Prelude.{◌<◌, Bool, true, false, Some, None, is_some, ◌==◌, ◌&&◌, ◌||◌}
use Rattle.wire_codec.specs.Field.{Payload}
use Rattle.wire_codec.specs.FieldNumber.{IsFieldNumber}
use Rattle.wire_codec.specs.Limits.{Charge, no_charge}
use Rattle.wire_codec.specs.Records.{none, plain}
use Rattle.wire_codec.specs.ValueMap.{uint64}
use Rattle.wire_fields.specs.declared.form.Form.TheVariants.{Varint}
use Rattle.wire_fields.specs.Back.{AllAre, FoldsBack}
use Rattle.wire_fields.specs.ChoiceSpot.{either_sets, variant_sets}
use Rattle.wire_fields.specs.Grounds.{Grounds, string_back, numeric_back, uint64_back}
use Rattle.wire_fields.specs.Nest.{nest, Rows, done, row, end, ahead, rows_row, set_rows}
use Rattle.wire_fields.specs.NestBack.{beside_returned}
use Rattle.wire_fields.specs.NestRange.{Beside, IsWithin, LeafBeside, GoesToLeaf, IsPlaceOf}
use Rattle.wire_fields.specs.NestRange.{leaf_range, beside_range, known_leaf_back, all_runs}
use Rattle.wire_fields.specs.NestRange.{piece, followed, same_order}
use Rattle.wire_fields.specs.NestTable.{alone}
use Rattle.wire_fields.specs.Numbers.{numeric}
use Rattle.wire_fields.specs.Oneof.{variant}
use Rattle.wire_fields.specs.OneofBack.{variant_back, variant_has}
use Rattle.wire_fields.specs.Presence.{implicit, always}
use Rattle.wire_fields.specs.Ranges.{Range, string_range, uint64_range, pair_range}
use Rattle.wire_fields.specs.Returned.{Returned, known_returned, two_returned}
use Rattle.wire_fields.specs.Returned.{implicit_returned, always_returned}
use Rattle.wire_fields.specs.Shape.{on, unknown, keeps}
use Rattle.wire_fields.specs.Texts.{string}
use Rattle.wire_samples.specs.Rule.{PlainTest, RuleKnown, RuleLeaf, RuleValue, as_count, as_word}
use Rattle.wire_samples.specs.Rule.{rule_test}
use Rattle.wire_samples.specs.Rule.{rule_name, rule_known, rule_leaf, rule_number, rule_once}
use Rattle.wire_samples.specs.Rule.{rule_place, without_not, rule, rule_shape}

-- ---- its plain test

abbrev pub test_holds : PlainTest → Type 0
test_holds None = Unit {0}
test_holds (Some (inl s)) = string_range.Holds s
test_holds (Some (inr x)) = uint64_range.Holds x

abbrev pub test_range : Range PlainTest
test_range = record { Holds = test_holds; charge_of = λ m. no_charge }

test_folds : Grounds → (m : PlainTest) → test_holds m
    → FoldsBack rule_test.takes rule_test.default (plain (rule_test.records m)) no_charge m
test_folds g None h = record { fitting = tt; numbered = tt; folded = (refl, refl) }
test_folds g (Some (inl s)) h =
    variant_back g.charges rule_test (always string).kind string_range.Holds string_range.charge_of
    (always_returned g _ _ string_back) (λ x. Some (inl x)) 2 s refl
    (g.number 2 (omega arith) (omega arith)) h (λ c p k. (s, k, refl))
test_folds g (Some (inr x)) h =
    variant_back g.charges rule_test (always (numeric Varint uint64)).kind uint64_range.Holds
    uint64_range.charge_of (always_returned g _ _ (numeric_back (uint64_back g)))
    (λ x. Some (inr x)) 5 x refl (g.number 5 (omega arith) (omega arith)) h (λ c p k. (x, k, refl))

-- there is no plain test
abbrev pub HasNone : PlainTest → Type 0
HasNone None = Unit {0}
HasNone (Some t) = ⊥

-- the field numbers of a plain test
abbrev is_plain : ℕ → Bool
is_plain n = n == 2 || n == 5

abbrev TestHas : ℕ → Type 0
TestHas n = (n ≡ 2) ⊎ (n ≡ 5)

test_has : Grounds → (m : PlainTest) → AllAre TestHas (plain (rule_test.records m))
test_has g None = tt
test_has g (Some (inl s)) =
    variant_has g.charges rule_test (always string).kind string_range.Holds string_range.charge_of
    (always_returned g _ _ string_back) (λ x. Some (inl x)) 2 s refl TestHas (inl refl)
test_has g (Some (inr x)) =
    variant_has g.charges rule_test (always (numeric Varint uint64)).kind uint64_range.Holds
    uint64_range.charge_of (always_returned g _ _ (numeric_back (uint64_back g)))
    (λ x. Some (inr x)) 5 x refl TestHas (inr refl)

abbrev test_returned : Grounds → Returned rule_test test_range
test_returned g = record {
  Has = TestHas;
  back = record {
    back = test_folds g;
    has = λ m h. test_has g m;
    own = λ n p h. elim h [ inl h ↦ rw h refl | inr h ↦ rw h refl ];
  };
}

-- ---- its name and such a test

abbrev pub known_range : Range RuleKnown
known_range = pair_range string_range test_range

abbrev name_returned : Grounds → Returned rule_name string_range
name_returned g =
    known_returned g 1 (implicit string) string_range (omega arith) (omega arith)
    (implicit_returned g _ _ string_back)

abbrev rule_known_returned : Grounds → Returned rule_known known_range
rule_known_returned g =
    two_returned g (name_returned g) (test_returned g)
    (λ n p h. elim h [ inl h ↦ rw h refl | inr h ↦ rw h refl ])

-- ---- a rule as the test

-- beside a rule as the test no plain one stands
abbrev pub rule_stands : Beside RuleLeaf
rule_stands l rows = HasNone l.0.1 ⊎ (rows_row 0 rows ≡ [])

-- on the way to a leaf without a plain test there is none
abbrev OnWay : RuleLeaf → RuleLeaf → Type 0
OnWay l m = HasNone l.0.1 → HasNone m.0.1

none_is : (m : PlainTest) → HasNone m → m ≡ None
none_is None h = refl
none_is (Some t) h = absurd h

pub none_where : (m : PlainTest) → is_some m ≡ false → HasNone m
none_where None h = tt
none_where (Some t) h = absurd cc

not_both : (m : PlainTest) → HasNone m → is_some m ≡ true → ⊥
not_both None h k = absurd cc
not_both (Some t) h k = h

test_sets : (m z : PlainTest) (n : ℕ) (p : Payload) (c : Charge) → rule_test.takes m n p c z
    → is_some z ≡ true
test_sets =
    either_sets (variant 2 (always string) as_word (λ s. Some (inl s)))
    (variant 5 (always (numeric Varint uint64)) as_count (λ x. Some (inr x)))
    (variant_sets 2 (always string) as_word (λ s. Some (inl s)) (λ s. refl))
    (variant_sets 5 (always (numeric Varint uint64)) as_count (λ x. Some (inr x)) (λ x. refl))

module _ (m z : RuleLeaf) (n : ℕ) (p : Payload) (c : Charge) (h : rule_leaf.takes m n p c z) where
  abbrev At : Bool → Type 0
  At b = on b (rule_known.takes m.0 n p c z.0 × (z.1 ≡ m.1)) (keeps m.1 n p c z.1 × (z.0 ≡ m.0))

  abbrev Inside : Bool → Type 0
  Inside b =
      on b (rule_name.takes m.0.0 n p c z.0.0 × (z.0.1 ≡ m.0.1))
      (rule_test.takes m.0.1 n p c z.0.1 × (z.0.0 ≡ m.0.0))

  stays_at : (b : Bool) → is_plain n ≡ false → (n == 1) ≡ b → z.0.1 ≡ m.0.1
  stays_at true other e =
      let known : At true = subst At (ap (λ x. x || is_plain n) e) h in
      let name : Inside true = subst Inside e known.0 in
      name.1
  stays_at false other e =
      let rest : At false = subst At (ap (λ x. x || is_plain n) e ∙ other) h in
      ap (λ (x : RuleKnown). x.1) rest.1

  -- a record with another number leaves the plain test as it is
  pub test_stays : is_plain n ≡ false → z.0.1 ≡ m.0.1
  test_stays other = stays_at (n == 1) other refl

  stood_not : (plain b : Bool) → is_plain n ≡ plain → (n == 1) ≡ b → HasNone z.0.1 → HasNone m.0.1
  stood_not false b is e nothing = subst HasNone (test_stays is) nothing
  stood_not true true is e nothing =
      let known : At true = subst At (ap (λ x. x || is_plain n) e) h in
      let name : Inside true = subst Inside e known.0 in
      subst HasNone name.1 nothing
  stood_not true false is e nothing =
      let known : At true = subst At (ap (λ x. x || is_plain n) e ∙ is) h in
      let test : Inside false = subst Inside e known.0 in
      absurd (not_both z.0.1 nothing (test_sets m.0.1 z.0.1 n p c test.0))

-- an empty row, emptied, is as it was
end_set : (rows : Rows RuleLeaf) → rows_row 0 rows ≡ [] → set_rows 0 end rows ≡ rows
end_set done is = refl
end_set (row end rs) is = refl
end_set (row (ahead m ms) rs) is = absurd cc

not_empty : (k : RuleValue) (ks : List RuleValue) → k ∷ ks ≡ [] → ⊥
not_empty k ks is = absurd cc

rule_comes_from : (l m z : RuleLeaf) (n : ℕ) (p : Payload) (c : Charge) → rule_leaf.takes m n p c z
    → OnWay l z → OnWay l m
rule_comes_from l m z n p c step way nothing =
    stood_not m z n p c step (is_plain n) (n == 1) refl refl (way nothing)

rule_stays : (l m : RuleLeaf) (rows into : Rows RuleLeaf) (i : ℕ) (k : RuleValue)
    (ks : List RuleValue) → rule_stands l rows → OnWay l m → rows_row i rows ≡ k ∷ ks
    → rule.beside i (nest m into) ≡ nest m into
rule_stays l m rows into zero k ks stands way is = elim stands [
  | inl nothing ↦ ap (λ (t : PlainTest). nest ((m.0.0, t), m.1) into)
      (sym (none_is m.0.1 (way nothing)))
  | inr empty ↦ absurd (not_empty k ks (sym is ∙ empty))
]
rule_stays l m rows into (suc i) k ks stands way is = refl

rule_rows_stay : (b set : Bool) (l m : RuleLeaf) (rows into : Rows RuleLeaf) → is_some m.0.1 ≡ set
    → rule_stands l rows → OnWay l m → IsWithin rows into → without_not (b && set) into ≡ into
rule_rows_stay false set l m rows into is stands way within = refl
rule_rows_stay true false l m rows into is stands way within = refl
rule_rows_stay true true l m rows into is stands way within = elim stands [
  | inl nothing ↦ absurd (not_both m.0.1 (way nothing) is)
  | inr empty ↦ end_set into (within 0 empty)
]

-- ---- its leaf

rule_row_numbers : Grounds → (i : ℕ) → i < 2 → IsFieldNumber (rule_number i)
rule_row_numbers g zero low = g.number 3 (omega arith) (omega arith)
rule_row_numbers g (suc zero) low = g.number 4 (omega arith) (omega arith)
rule_row_numbers g (suc (suc i)) low = absurd (omega (arith, low))

rule_row_places : (i : ℕ) → i < 2 → IsPlaceOf i (rule_once i) (rule_place (rule_number i))
rule_row_places zero low = (refl, refl)
rule_row_places (suc zero) low = (refl, refl)
rule_row_places (suc (suc i)) low = absurd (omega (arith, low))

-- the runs, one behind another, are the records of the leaf
pub rule_runs_in_order : (l : RuleLeaf) → all_runs rule l ≡ rule_leaf.records l
rule_runs_in_order l =
    let fields = piece (rule_known.records l.0) in
    let others = piece (unknown.records l.1) in
    same_order (followed fields (followed (piece none) (followed others (piece none))))
    (followed fields others) refl

abbrev pub rule_leaf_range : Range RuleLeaf
rule_leaf_range = leaf_range rule rule_known known_range

abbrev rule_back : Grounds → LeafBeside rule rule_leaf_range rule_stands
rule_back g = record {
  number = rule_row_numbers g;
  place = rule_row_places;
  back = λ l holds. subst (λ rs. FoldsBack rule.takes rule.default (plain rs)
      (rule_leaf_range.charge_of l) l × AllAre (GoesToLeaf rule) (plain rs))
      (sym (rule_runs_in_order l))
      (known_leaf_back g rule rule_known known_range (rule_known_returned g)
      (λ n h. elim h [
        | inl h ↦ rw h refl
        | inr h ↦ elim h [ inl h ↦ rw h refl | inr h ↦ rw h refl ]
      ]) l holds);
  OnWay = OnWay;
  ends = λ l nothing. nothing;
  comes_from = rule_comes_from;
  beside = λ l m rows into i k ks holds stands way within once.
      rule_stays l m rows into i k ks stands way;
  rows_beside = λ l m rows into n holds stands way within.
      rule_rows_stay (is_plain n) (is_some m.0.1) l m rows into refl stands way within;
}

abbrev pub rule_range : Range RuleValue
rule_range = beside_range (alone rule) (λ s. rule_leaf_range) (λ s. rule_stands) tt

pub rule_returned : Grounds → Returned rule_shape rule_range
rule_returned g =
    beside_returned g (alone rule) (λ s. rule_leaf_range) (λ s. rule_stands)
    (λ s. rule_leaf.single g.reading) (λ s. rule_back g) tt rule_shape refl refl refl (λ n p. refl)
