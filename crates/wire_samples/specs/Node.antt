-- A `Node` as contracts see it, and its records.
use Rattle.std.specs.Prelude.{◌≢◌, ℤ, pos, ℕ, List, [], ◌∷◌, Option, Some, None, Box, box_value}
use Rattle.std.specs.Prelude.{FitsSigned}
use Rattle.std.specs.Int.{w64}
use Rattle.std.specs.declared.alloc.Global.{Global}
use Rattle.wire_codec.specs.Field.{Fields}
use Rattle.wire_codec.specs.Records as records
use Rattle.wire_codec.specs.Records.{Records, joined_records, of_fields}
use Rattle.wire_samples.specs.declared.node.Node.{Node, Node-F, fold-Node}
use Rattle.wire_samples.specs.FieldRecords.{sint64_field}
use Rattle.wire_samples.specs.Kept.{AreUnknown}

-- ---- values

mutual
  -- its value, child, children, group and unknown fields
  pub data NodeValue : Type 0 where
    node : ℤ → MaybeNode → NodeList → MaybeNode → Fields → NodeValue

  pub data MaybeNode : Type 0 where
    absent : MaybeNode
    present : NodeValue → MaybeNode

  pub data NodeList : Type 0 where
    empty : NodeList
    ahead : NodeValue → NodeList → NodeList

abbrev pub held : Option (Box NodeValue Global) → MaybeNode
held None = absent
held (Some boxed) = present (box_value boxed)

abbrev pub node_list : List NodeValue → NodeList
node_list [] = empty
node_list (m ∷ ms) = ahead m (node_list ms)

-- one node, with values in the places of those that it holds
abbrev pub one_node : Node-F NodeValue → NodeValue
one_node n = node n.value (held n.child) (node_list n.children.items) (held n.group) n.unknown

abbrev pub node_value : Node → NodeValue
node_value = fold-Node NodeValue one_node

abbrev pub default_node : NodeValue
default_node = node (pos 0) absent empty absent Fields.none

-- ---- parts

abbrev pub child_of : NodeValue → MaybeNode
child_of (node v child children group unknown) = child

abbrev pub own_group : NodeValue → MaybeNode
own_group (node v child children group unknown) = group

abbrev pub unknown_of : NodeValue → Fields
unknown_of (node v child children group unknown) = unknown

abbrev pub or_default : MaybeNode → NodeValue
or_default absent = default_node
or_default (present m) = m

-- one more at the end
abbrev pub appended : NodeList → NodeValue → NodeList
appended empty m = ahead m empty
appended (ahead k ks) m = ahead k (appended ks m)

-- the same node but for one field
abbrev pub with_value : NodeValue → ℤ → NodeValue
with_value (node v child children group unknown) w = node w child children group unknown

abbrev pub with_child : NodeValue → NodeValue → NodeValue
with_child (node v child children group unknown) m = node v (present m) children group unknown

abbrev pub with_another : NodeValue → NodeValue → NodeValue
with_another (node v child children group unknown) m =
    node v child (appended children m) group unknown

abbrev pub with_group : NodeValue → NodeValue → NodeValue
with_group (node v child children group unknown) m = node v child children (present m) unknown

abbrev pub keeping : NodeValue → Fields → NodeValue
keeping (node v child children group unknown) fs = node v child children group fs

-- ---- records

abbrev mutual
  -- in the order of the numbers, and the unknown fields behind
  pub node_records : NodeValue → Records
  node_records (node v child children group unknown) =
      joined_records (sint64_field 1 v)
      (joined_records (child_record child)
      (joined_records (children_records children)
      (joined_records (group_record group) (of_fields unknown))))

  -- an embedded message, where there is one
  pub child_record : MaybeNode → Records
  child_record absent = records.none
  child_record (present m) = records.field 2 (records.embedded (node_records m)) records.none

  -- an embedded message for each
  pub children_records : NodeList → Records
  children_records empty = records.none
  children_records (ahead m ms) =
      records.field 3 (records.embedded (node_records m)) (children_records ms)

  -- a group, where there is one
  pub group_record : MaybeNode → Records
  group_record absent = records.none
  group_record (present m) = records.field 4 (records.group (node_records m)) records.none

-- ---- the values that a `Node` of Rust has, with unknown fields as decoding leaves them

-- the number is none that the type knows
pub record IsNodeOther (n : ℕ) : Type 0 where
  pub value : n ≢ 1
  pub child : n ≢ 2
  pub children : n ≢ 3
  pub group : n ≢ 4

abbrev mutual
  pub IsNode : NodeValue → Type 0
  IsNode (node v child children group unknown) =
      FitsSigned w64 v × IsMaybeNode child × AreNodes children × IsMaybeNode group
      × AreUnknown IsNodeOther unknown

  pub IsMaybeNode : MaybeNode → Type 0
  IsMaybeNode absent = Unit {0}
  IsMaybeNode (present m) = IsNode m

  pub AreNodes : NodeList → Type 0
  AreNodes empty = Unit {0}
  AreNodes (ahead m ms) = IsNode m × AreNodes ms
