use Rattle.std.proofs.Common.{◌∙◌, ap, map, sym}
use Rattle.wire_fields.specs.Nest.{listed_row}
use Rattle.wire_tables.specs.Tree.{Tree-Value, tree-one, tree-value}
use Rattle.wire_tables.specs.declared.tree.Tree.{fold_out-Tree}
use Rattle.wire_tables.proofs.tree.TreeRecursiveAlone.row.Goals as goal

pub returns-in-0 : goal.returns-in-0
returns-in-0 c =
    rw (c.in-0.is, fold_out-Tree Tree-Value tree-one c.args.self.now)
    (ap (map tree-value) c.deref.ensures.value ∙ sym (listed_row _))
