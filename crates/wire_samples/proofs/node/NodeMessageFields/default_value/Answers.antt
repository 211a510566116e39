use Rattle.wire_samples.proofs.NodeNests.{same_value}
use Rattle.wire_samples.specs.Node.{node_value, default_node}
use Rattle.wire_samples.proofs.node.NodeMessageFields.default_value.Goals as goal

pub returns : goal.returns
returns c = same_value (node_value c.empty.result) default_node c.empty.ensures
