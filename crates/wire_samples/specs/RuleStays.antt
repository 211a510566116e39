-- What decoding leaves of a `Rule` is in range, also of one whose test is a rule.
use Rattle.std.proofs.Common.{◌≡◌, inl, inr, ℕ, zero, suc, [], refl, sym, subst, arith}
use Rattle.std.specs.Prelude.{Bool, true, false, Some, None, is_some, ◌==◌, ◌&&◌, ◌||◌}
use Rattle.wire_codec.specs.Field.{Payload}
use Rattle.wire_codec.specs.Limits.{Charge}
use Rattle.wire_codec.specs.ValueMap.{uint64}
use Rattle.wire_fields.specs.declared.form.Form.TheVariants.{Varint}
use Rattle.wire_fields.specs.Grounds.{Grounds}
use Rattle.wire_fields.specs.Messages.{or_else}
use Rattle.wire_fields.specs.Nest.{Rows, done, row, Row, leaf_of, rows_of}
use Rattle.wire_fields.specs.Nest.{rows_row, set_rows}
use Rattle.wire_fields.specs.NestTable.{alone, IsThere}
use Rattle.wire_fields.specs.Numbers.{numeric}
use Rattle.wire_fields.specs.Presence.{implicit, always}
use Rattle.wire_fields.specs.Ranges.{string_range, uint64_range}
use Rattle.wire_fields.specs.Short.{AreShort}
use Rattle.wire_fields.specs.Stays.{FieldsStay, KindStays, Stays, known_stays, two_stays}
use Rattle.wire_fields.specs.StaysKinds.{always_stays, implicit_stays, numeric_stays, string_stays}
use Rattle.wire_fields.specs.StaysKinds.{uint64_stays}
use Rattle.wire_fields.specs.StaysLeaf.{known_stay, there_where}
use Rattle.wire_fields.specs.StaysMessages.{either_stays, oneof_stays, variant_stays}
use Rattle.wire_fields.specs.StaysNest.{LeafStays, IsThinned, as_thin, beside_stays}
use Rattle.wire_fields.specs.Texts.{string}
use Rattle.wire_samples.specs.Rule.{PlainTest, RuleLeaf, RuleValue, as_word, as_count, rule_test}
use Rattle.wire_samples.specs.Rule.{test_records, rule_known, rule_leaf, rule_once, rule_place}
use Rattle.wire_samples.specs.Rule.{without_not, rule, rule_shape}
use Rattle.wire_samples.specs.RuleBack.{HasNone, known_range, rule_leaf_range, rule_range}
use Rattle.wire_samples.specs.RuleBack.{rule_runs_in_order, rule_stands, test_holds, test_range}
use Rattle.wire_samples.specs.RuleBack.{none_where, test_stays}

-- ---- its plain test

abbrev word_is : KindStays (always string).kind string_range
word_is = always_stays string_stays

abbrev count_is : KindStays (always (numeric Varint uint64)).kind uint64_range
count_is = always_stays (numeric_stays uint64_stays)

abbrev TestIs : PlainTest → Type 0
TestIs None = Unit {0}
TestIs (Some (inl s)) = word_is.Is s
TestIs (Some (inr x)) = count_is.Is x

word_there : (m : PlainTest) → TestIs m
    → word_is.Is (or_else (always string).kind.default (as_word m))
word_there None h = word_is.start
word_there (Some (inl s)) h = h
word_there (Some (inr x)) h = word_is.start

count_there : (m : PlainTest) → TestIs m
    → count_is.Is (or_else (always (numeric Varint uint64)).kind.default (as_count m))
count_there None h = count_is.start
count_there (Some (inl s)) h = count_is.start
count_there (Some (inr x)) h = h

test_in_range : (m : PlainTest) → TestIs m → AreShort (test_records m) → test_holds m
test_in_range None h short = tt
test_in_range (Some (inl s)) h short = word_is.holds 2 s h short
test_in_range (Some (inr x)) h short = count_is.holds 5 x h short

abbrev test_is : FieldsStay rule_test test_range
test_is =
    oneof_stays None test_records _ TestIs tt
    (either_stays (variant_stays 2 (always string) as_word (λ s. Some (inl s)) TestIs word_is
    word_there (λ t h. h))
    (variant_stays 5 (always (numeric Varint uint64)) as_count (λ x. Some (inr x)) TestIs count_is
    count_there (λ t h. h))) test_in_range

-- ---- its leaf

abbrev known_is : FieldsStay rule_known known_range
known_is = two_stays (known_stays 1 (implicit string) (implicit_stays string_stays)) test_is

rule_there : (n : ℕ) → IsThere rule (rule_place n)
rule_there n = there_where rule (n == 3) _ _ (omega arith, refl)
    (there_where rule (n == 4) _ _ (omega arith, refl) tt)

-- ---- a rule as the test

-- where a record leaves a plain test no rule is the test, and one of another field leaves the plain
-- one
thinned : (b : Bool) (rows : Rows RuleLeaf) → IsThinned rows (without_not b rows)
thinned false rows = as_thin rows
thinned true done = tt
thinned true (row q rs) = (inr refl, as_thin rs)

no_row : (rows : Rows RuleLeaf) → rows_row 0 (without_not true rows) ≡ []
no_row done = refl
no_row (row q rs) = refl

stands_then : (n : ℕ) (p : Payload) (c : Charge) (l z : RuleLeaf) (rows : Rows RuleLeaf)
    (b set : Bool) → (n == 2 || n == 5) ≡ b → is_some z.0.1 ≡ set → rule_stands l rows
    → rule_leaf.takes l n p c z → rule_stands z (without_not (b && set) rows)
stands_then n p c l z rows true true own is stands taken = inr (no_row rows)
stands_then n p c l z rows true false own is stands taken = inl (none_where z.0.1 is)
stands_then n p c l z rows false set own is stands taken = elim stands [
  | inl nothing ↦ inl (subst HasNone (sym (test_stays l z n p c taken own)) nothing)
  | inr empty ↦ inr empty
]

-- a rule becomes the test, and no plain one stands then
one_stands : (i : ℕ) (m after : RuleValue) → rule_once i ≡ true
    → HasNone (leaf_of (rule.beside i m)).0.1
one_stands zero m after once = tt
one_stands (suc i) m after once = absurd cc

more_stands : (i : ℕ) (l : RuleLeaf) (rows : Rows RuleLeaf) (q : Row RuleLeaf) → rule_once i ≡ false
    → rule_stands l rows → rule_stands l (set_rows i q rows)
more_stands zero l rows q many stands = absurd cc
more_stands (suc i) l done q many stands = stands
more_stands (suc i) l (row p rs) q many stands = stands

module _ (g : Grounds) where
  abbrev LeafIs : RuleLeaf → Type 0
  LeafIs = (known_stay rule known_is).Is

  one_is : (i : ℕ) (m : RuleValue) → rule_once i ≡ true → LeafIs (leaf_of m)
      → LeafIs (leaf_of (rule.beside i m))
  one_is zero m once is = ((is.0.0, tt), is.1)
  one_is (suc i) m once is = absurd cc

  one_thin : (i : ℕ) (m : RuleValue) → IsThinned (rows_of m) (rows_of (rule.beside i m))
  one_thin zero m = as_thin (rows_of m)
  one_thin (suc i) m = as_thin (rows_of m)

  abbrev rule_leaf_is : LeafStays rule rule_leaf_range rule_stands
  rule_leaf_is = record {
    Is = LeafIs;
    start = (known_stay rule known_is).begins;
    step = λ n p c l z sound here is taken.
        (known_stay rule known_is).step n p c l z sound here is taken;
    holds = λ l is short. (known_stay rule known_is).holds l is
        (subst AreShort (rule_runs_in_order l) short);
    there = rule_there;
    none = inl tt;
    beside_leaf = λ n p c l z rows here is stands taken. (
      thinned ((n == 2 || n == 5) && is_some z.0.1) rows,
      stands_then n p c l z rows (n == 2 || n == 5) (is_some z.0.1) refl refl stands taken,
    );
    beside_one = λ i m after once is stands. (
      one_is i m once is,
      one_thin i m,
      inl (one_stands i m after once),
    );
    beside_more = more_stands;
  }

  pub rule_decodes : Stays rule_shape rule_range
  rule_decodes =
      beside_stays g (alone rule) (λ s. rule_leaf_range) (λ s. rule_stands) (λ s. rule_leaf_is) tt
      rule_shape refl refl refl
