-- What a `Node` makes of a record.
use Rattle.std.specs.Prelude.{◌≡◌, ◌↔◌, ◌≤◌, ℤ, ℕ, List, length}
use Rattle.wire_codec.specs.Charge.{payload_charge}
use Rattle.wire_codec.specs.Field.{Payload, bytes, group, Fields, none, field, push}
use Rattle.wire_codec.specs.Folds.{Folds}
use Rattle.wire_codec.specs.Limits.{Charge, no_charge, both, nested, element_of}
use Rattle.wire_codec.specs.Spells.{Spells}
use Rattle.wire_samples.specs.FieldSteps.{SetsSint64}
use Rattle.wire_samples.specs.Node.{NodeValue, default_node, or_default, child_of, own_group}
use Rattle.wire_samples.specs.Node.{unknown_of, with_value, with_child, with_another, with_group}
use Rattle.wire_samples.specs.Node.{keeping, IsNodeOther}

-- the charge of one of the children: 64 bytes of element memory, and what it takes, one level down
abbrev pub another_charge : Charge → Charge
another_charge inside = both (element_of 64) (nested inside)

mutual
  -- A record of a number that the type knows is for that field, and any other is kept and charged.
  -- A node that is embedded, or stands in a group, is charged for what it takes, one level down.
  pub data NodeTakes : NodeValue → ℕ → Payload → Charge → NodeValue → Type 0 where
    value : {m : NodeValue} {n : ℕ} {p : Payload} {c : Charge} {z : NodeValue}
        (v : ℤ) → n ≡ 1 → SetsSint64 p v → c ≡ no_charge → z ≡ with_value m v
        → NodeTakes m n p c z
    child : {m : NodeValue} {n : ℕ} {p : Payload} {c : Charge} {z : NodeValue}
        (b : List ℕ) (inside : Charge) (after : NodeValue) → n ≡ 2 → p ≡ bytes b
        → NodeMerges (or_default (child_of m)) b inside after
        → c ≡ nested inside → z ≡ with_child m after
        → NodeTakes m n p c z
    another : {m : NodeValue} {n : ℕ} {p : Payload} {c : Charge} {z : NodeValue}
        (b : List ℕ) (inside : Charge) (after : NodeValue) → n ≡ 3 → p ≡ bytes b
        → NodeMerges default_node b inside after
        → c ≡ another_charge inside → z ≡ with_another m after
        → NodeTakes m n p c z
    grouped : {m : NodeValue} {n : ℕ} {p : Payload} {c : Charge} {z : NodeValue}
        (fs : Fields) (inside : Charge) (after : NodeValue) → n ≡ 4 → p ≡ group fs
        → NodeFolds (or_default (own_group m)) fs inside after
        → c ≡ nested inside → z ≡ with_group m after
        → NodeTakes m n p c z
    unknown : {m : NodeValue} {n : ℕ} {p : Payload} {c : Charge} {z : NodeValue}
        → IsNodeOther n → c ≡ payload_charge p → z ≡ keeping m (push (unknown_of m) n p)
        → NodeTakes m n p c z

  -- the payload of an embedded message spells records, which the node takes
  pub data NodeMerges : NodeValue → List ℕ → Charge → NodeValue → Type 0 where
    merged : {m : NodeValue} {b : List ℕ} {c : Charge} {z : NodeValue}
        (fs : Fields) → length b ≤ 2147483647 → Spells fs b → NodeFolds m fs c z
        → NodeMerges m b c z

  -- `Folds` of this step: the node takes the records one after another
  pub data NodeFolds : NodeValue → Fields → Charge → NodeValue → Type 0 where
    no_more : {m : NodeValue} {fs : Fields} {c : Charge} {z : NodeValue}
        → fs ≡ none → c ≡ no_charge → z ≡ m → NodeFolds m fs c z
    one_more : {m : NodeValue} {fs : Fields} {c : Charge} {z : NodeValue}
        (n : ℕ) (p : Payload) (others : Fields) (mid : NodeValue) (first rest : Charge)
        → fs ≡ field n p others → NodeTakes m n p first mid → NodeFolds mid others rest z
        → c ≡ both first rest → NodeFolds m fs c z

-- what a node takes one after another is the fold of its step
abbrev pub NodesFoldByTheirStep : Type 0
NodesFoldByTheirStep =
    (m : NodeValue) (fs : Fields) (c : Charge) (z : NodeValue)
    → NodeFolds m fs c z ↔ Folds NodeTakes m fs c z
