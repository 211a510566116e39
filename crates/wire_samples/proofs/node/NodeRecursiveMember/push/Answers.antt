use Rattle.std.proofs.Common.{◌∙◌, ap}
use Rattle.std.proofs.lemmas.Result.{on_ok_weaker}
use Rattle.wire_samples.proofs.NodeNests.{children_set}
use Rattle.wire_samples.specs.declared.node.Node.{out-Node, fold_out-Node}
use Rattle.wire_samples.specs.declared.node.Node.TheFolds.{fold-roll-Node}
use Rattle.wire_samples.specs.Node.{NodeValue, one_node}
use Rattle.wire_samples.specs.NodeTable.{as_nest}
use Rattle.wire_samples.proofs.node.NodeRecursiveMember.push.Goals as goal

pub returns-in-1-clause-ok : goal.returns-in-1-clause-ok
returns-in-1-clause-ok c =
    λ here many kind. on_ok_weaker c.push_message.result (λ pushed. rw (
      c.in-1.is,
      fold_out-Node NodeValue one_node c.args.self.now,
    ) (ap as_nest (fold-roll-Node NodeValue one_node _)
    ∙ children_set _ _ (out-Node c.args.self.now).children.items _ _ _ c.args.message pushed))
    c.push_message.ensures.ok
