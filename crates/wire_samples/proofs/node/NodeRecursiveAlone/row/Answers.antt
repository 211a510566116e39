use Rattle.std.proofs.Common.{◌∙◌, ap, map, sym}
use Rattle.wire_samples.proofs.NodeNests.{list_listed}
use Rattle.wire_samples.specs.declared.node.Node.{fold_out-Node}
use Rattle.wire_samples.specs.Node.{NodeValue, one_node}
use Rattle.wire_samples.specs.NodeTable.{node_nest}
use Rattle.wire_samples.proofs.node.NodeRecursiveAlone.row.Goals as goal

pub returns-in-1 : goal.returns-in-1
returns-in-1 c =
    rw (c.in-1.is, fold_out-Node NodeValue one_node c.args.self.now)
    (ap (map node_nest) c.deref-in-1.ensures.value ∙ sym (list_listed _))
