use Rattle.std.proofs.Common.{◌∙◌}
use Rattle.std.proofs.lemmas.Result.{on_ok_weaker}
use Rattle.wire_fields.specs.Nest.{listed_row, row_pushed}
use Rattle.wire_tables.specs.Tree.{Tree-Value, tree-one, tree-value}
use Rattle.wire_tables.specs.declared.tree.Tree.{Tree, out-Tree, fold_out-Tree}
use Rattle.wire_tables.specs.declared.tree.Tree.TheFolds.{fold-roll-Tree, map-Tree}
use Rattle.wire_tables.proofs.tree.TreeRecursiveMember.push.Goals as goal

pub returns-in-0-clause-ok : goal.returns-in-0-clause-ok
returns-in-0-clause-ok c =
    λ here many kind. on_ok_weaker c.push_message.result (λ pushed. rw (
      c.in-0.is,
      fold_out-Tree Tree-Value tree-one c.args.self.now,
    ) (fold-roll-Tree Tree-Value tree-one _
    ∙ row_pushed tree-value 0
    (tree-one (map-Tree Tree Tree-Value tree-value (out-Tree c.args.self.now)))
    _ _ c.args.message (listed_row _) pushed)) c.push_message.ensures.ok
