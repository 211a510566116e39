-- A `Node` as a table of its fields, three of which are of its own type.
use Rattle.std.proofs.Common.{◌≡◌, ap}
use Rattle.std.specs.Prelude.{ℤ, ℕ, zero, suc, Bool, true, false, ◌==◌}
use Rattle.wire_codec.specs.Field.{Fields}
use Rattle.wire_codec.specs.Records.{Records, none}
use Rattle.wire_codec.specs.ValueMap.{sint64}
use Rattle.wire_fields.specs.declared.form.Form.TheVariants.{Varint}
use Rattle.wire_fields.specs.declared.recursive.Place.{Place}
use Rattle.wire_fields.specs.declared.recursive.Place.TheVariants.{Leaf, Once, Each, Grouped}
use Rattle.wire_fields.specs.Nest as nests
use Rattle.wire_fields.specs.Nest.{Nest, nest, Row, row, done, end, row_count}
use Rattle.wire_fields.specs.NestTable.{Table, if_number, as_it_was, as_they_were}
use Rattle.wire_fields.specs.Numbers.{numeric}
use Rattle.wire_fields.specs.Presence.{implicit}
use Rattle.wire_fields.specs.Shape.{Shape, known, two, unknown}
use Rattle.wire_samples.specs.declared.node.Node.{Node, fold_out-Node}
use Rattle.wire_samples.specs.Node.{NodeValue, node, MaybeNode, absent, present, NodeList, empty}
use Rattle.wire_samples.specs.Node.{ahead, node_value, one_node}

-- its value and its unknown fields
abbrev pub NodeLeaf : Type 0
NodeLeaf = ℤ × Fields

abbrev pub NodeNest : Type 0
NodeNest = Nest NodeLeaf

-- ---- the same value, with a row for its child, one for its children and one for its group

abbrev mutual
  pub as_nest : NodeValue → NodeNest
  as_nest (node v child children group unknown) =
      nest (v, unknown)
      (row (maybe_row child) (row (list_row children) (row (maybe_row group) done)))

  pub maybe_row : MaybeNode → Row NodeLeaf
  maybe_row absent = end
  maybe_row (present m) = nests.ahead (as_nest m) end

  pub list_row : NodeList → Row NodeLeaf
  list_row empty = end
  list_row (ahead m ms) = nests.ahead (as_nest m) (list_row ms)

abbrev pub node_nest : Node → NodeNest
node_nest n = as_nest (node_value n)

-- ---- the table

abbrev pub node_number : Shape ℤ
node_number = known 1 (implicit (numeric Varint sint64))

abbrev pub node_leaf : Shape NodeLeaf
node_leaf = two node_number unknown

-- the value before the rows, and the unknown fields behind them
abbrev pub node_run : ℕ → NodeLeaf → Records
node_run zero l = node_number.records l.0
node_run (suc zero) l = none
node_run (suc (suc zero)) l = none
node_run (suc (suc (suc i))) l = unknown.records l.1

abbrev pub row_number : ℕ → ℕ
row_number zero = 2
row_number (suc zero) = 3
row_number (suc (suc i)) = 4

abbrev pub row_once : ℕ → Bool
row_once zero = true
row_once (suc zero) = false
row_once (suc (suc i)) = true

-- a child, children of 64 bytes each, and a group
abbrev pub node_place : ℕ → Place
node_place n =
    if_number (n == 2) (Once 0)
    (if_number (n == 3) (Each 1 64)
    (if_number (n == 4) (Grouped 2) Leaf))

abbrev pub node_table : Table NodeLeaf
node_table = record {
  default = node_leaf.default;
  takes = node_leaf.takes;
  run = node_run;
  rows = 3;
  number = row_number;
  once = row_once;
  place = node_place;
  beside = as_it_was;
  rows_beside = as_they_were;
}

pub node_counted : (m : Node) → row_count (node_nest m) ≡ 3
node_counted m = ap (λ (x : NodeValue). row_count (as_nest x)) (fold_out-Node NodeValue one_node m)
