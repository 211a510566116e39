-- A `Rule` as contracts see it, and its table.
use Rattle.std.proofs.Common.{◌≡◌, ap, zero, suc, inl, inr, [], ◌∷◌}
use Rattle.std.specs.Prelude.{ℕ, ◌⊎◌, List, Bool, true, false, ◌==◌, ◌&&◌, ◌||◌, Option, Some, None, box_value, is_some, string_bytes}
use Rattle.wire_codec.specs.Field.{Fields}
use Rattle.wire_codec.specs.Folds.{IsSingle}
use Rattle.wire_codec.specs.Records.{Records, none}
use Rattle.wire_codec.specs.TakingLaws.{OneReading}
use Rattle.wire_codec.specs.ValueMap.{uint64}
use Rattle.wire_fields.specs.declared.form.Form.TheVariants.{Varint}
use Rattle.wire_fields.specs.declared.recursive.Place.{Place}
use Rattle.wire_fields.specs.declared.recursive.Place.TheVariants.{Leaf, Once, Each}
use Rattle.wire_fields.specs.Nest.{Nest, nest, Rows, row, end, done, row_of, row_count, leaf_of, rows_of, set_rows}
use Rattle.wire_fields.specs.NestTable.{Table, if_number, empty_of, nest_records, nest_takes}
use Rattle.wire_fields.specs.NestTable.{nest_single}
use Rattle.wire_fields.specs.Numbers.{numeric}
use Rattle.wire_fields.specs.Oneof.{variant, either_of, oneof}
use Rattle.wire_fields.specs.Presence.{implicit, always}
use Rattle.wire_fields.specs.Shape.{Shape, known, two, unknown}
use Rattle.wire_fields.specs.Texts.{string}
use Rattle.wire_samples.specs.declared.rule.Rule.{Rule, Rule-F, fold-Rule, fold_out-Rule}
use Rattle.wire_samples.specs.declared.rule.RuleTest.{RuleTest, RuleTest-F, fold-RuleTest}
use Rattle.wire_samples.specs.declared.rule.RuleTest.TheOpen as tests

-- the word or the count of its test, or none of them
abbrev pub PlainTest : Type 0
PlainTest = Option (List ℕ ⊎ ℕ)

-- its name and such a test
abbrev pub RuleKnown : Type 0
RuleKnown = List ℕ × PlainTest

abbrev pub RuleLeaf : Type 0
RuleLeaf = RuleKnown × Fields

abbrev pub RuleValue : Type 0
RuleValue = Nest RuleLeaf

-- ---- a rule with values in the places of those that it holds

-- a test is a plain one, or a rule
abbrev pub TestValue : Type 0
TestValue = PlainTest × List RuleValue

abbrev pub one_test : RuleTest-F TestValue RuleValue → TestValue
one_test (tests.Word s) = (Some (inl (string_bytes s)), [])
one_test (tests.Not b) = (None, box_value b ∷ [])
one_test (tests.Count x) = (Some (inr x), [])

abbrev pub plain_of : Option TestValue → PlainTest
plain_of None = None
plain_of (Some t) = t.0

abbrev pub own_of : Option TestValue → List RuleValue
own_of None = []
own_of (Some t) = t.1

abbrev pub one_rule : Rule-F TestValue RuleValue → RuleValue
one_rule r =
    nest ((string_bytes r.name, plain_of r.test), r.unknown)
    (row (row_of (own_of r.test)) (row (row_of r.all.items) done))

abbrev pub rule_test_value : RuleTest → TestValue
rule_test_value = fold-RuleTest TestValue RuleValue one_test one_rule

abbrev pub rule_value : Rule → RuleValue
rule_value = fold-Rule TestValue RuleValue one_test one_rule

-- ---- the leaf

abbrev pub as_word : PlainTest → Option (List ℕ)
as_word None = None
as_word (Some (inl s)) = Some s
as_word (Some (inr x)) = None

abbrev pub as_count : PlainTest → Option ℕ
as_count None = None
as_count (Some (inl s)) = None
as_count (Some (inr x)) = Some x

abbrev pub test_records : PlainTest → Records
test_records None = none
test_records (Some (inl s)) = (always string).kind.records 2 s
test_records (Some (inr x)) = (always (numeric Varint uint64)).kind.records 5 x

abbrev pub rule_test : Shape PlainTest
rule_test =
    oneof None test_records (either_of (variant 2 (always string) as_word (λ s. Some (inl s)))
    (variant 5 (always (numeric Varint uint64)) as_count (λ x. Some (inr x))))

abbrev pub rule_name : Shape (List ℕ)
rule_name = known 1 (implicit string)

abbrev pub rule_known : Shape RuleKnown
rule_known = two rule_name rule_test

abbrev pub rule_leaf : Shape RuleLeaf
rule_leaf = two rule_known unknown

-- ---- the table

-- the name and the plain test; nothing; the unknown fields
abbrev pub rule_run : ℕ → RuleLeaf → Records
rule_run zero l = rule_known.records l.0
rule_run (suc zero) l = none
rule_run (suc (suc i)) l = unknown.records l.1

abbrev pub rule_number : ℕ → ℕ
rule_number zero = 3
rule_number (suc i) = 4

abbrev pub rule_once : ℕ → Bool
rule_once zero = true
rule_once (suc i) = false

abbrev pub rule_place : ℕ → Place
rule_place n = if_number (n == 3) (Once 0) (if_number (n == 4) (Each 1 88) Leaf)

-- beside a rule as the test no plain one stands
abbrev pub rule_beside : ℕ → RuleValue → RuleValue
rule_beside zero m = nest (((leaf_of m).0.0, None), (leaf_of m).1) (rows_of m)
rule_beside (suc i) m = m

-- and beside a plain one no rule
abbrev pub without_not : Bool → Rows RuleLeaf → Rows RuleLeaf
without_not true rs = set_rows 0 end rs
without_not false rs = rs

abbrev pub rule_rows_beside : ℕ → RuleLeaf → Rows RuleLeaf → Rows RuleLeaf
rule_rows_beside n l rs = without_not ((n == 2 || n == 5) && is_some l.0.1) rs

abbrev pub rule : Table RuleLeaf
rule = record {
  default = rule_leaf.default;
  takes = rule_leaf.takes;
  run = rule_run;
  rows = 2;
  number = rule_number;
  once = rule_once;
  place = rule_place;
  beside = rule_beside;
  rows_beside = rule_rows_beside;
}

pub rule_counted : (m : Rule) → row_count (rule_value m) ≡ 2
rule_counted m = ap row_count (fold_out-Rule TestValue RuleValue one_test one_rule m)

pub rule_single : OneReading → IsSingle (nest_takes rule)
rule_single reading = nest_single rule reading (rule_leaf.single reading)

abbrev pub rule_shape : Shape RuleValue
rule_shape = record {
  owns = λ n p. true;
  default = empty_of rule;
  records = nest_records rule;
  takes = nest_takes rule;
  single = rule_single;
}
