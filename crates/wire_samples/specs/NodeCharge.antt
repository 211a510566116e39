-- What a `Node` is charged for the records of a value.
use Rattle.wire_codec.specs.Charge.{charge}
use Rattle.wire_codec.specs.Limits.{Charge, no_charge, both, nested}
use Rattle.wire_samples.specs.Node.{NodeValue, node, MaybeNode, absent, present, NodeList, empty}
use Rattle.wire_samples.specs.Node.{ahead}
use Rattle.wire_samples.specs.NodeSteps.{another_charge}

abbrev mutual
  -- in the order of its records, one after another
  pub node_charge : NodeValue → Charge
  node_charge (node v child children group unknown) =
      both (held_charge child) (both (children_charge children)
      (both (held_charge group) (charge unknown)))

  -- one level down, where there is a node
  pub held_charge : MaybeNode → Charge
  held_charge absent = no_charge
  held_charge (present m) = nested (node_charge m)

  -- each by itself, in order
  pub children_charge : NodeList → Charge
  children_charge empty = no_charge
  children_charge (ahead m ms) =
      both (another_charge (node_charge m)) (children_charge ms)
