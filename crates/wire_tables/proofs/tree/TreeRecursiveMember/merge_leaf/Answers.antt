use Rattle.std.proofs.Common.{rules, sym, ◌∙◌}
use Rattle.wire_codec.specs.TagView.{tag_number}
use Rattle.wire_fields.specs.Arms.{arm_err, neither, rest_err, unlike}
use Rattle.wire_fields.specs.Shape.{keeps}
use Rattle.wire_tables.specs.Tree.{Tree-Value, tree-known, tree-leaf, tree-name-kind, tree-one}
use Rattle.wire_tables.specs.Tree.{tree-visits-kind}
use Rattle.wire_tables.specs.declared.tree.Tree.{fold_out-Tree}
use Rattle.wire_tables.proofs.tree.TreeRecursiveMember.merge_leaf.Goals as goal

pub returns-in-1-clause-err : goal.returns-in-1-clause-err
returns-in-1-clause-err g c =
    rw (fold_out-Tree Tree-Value tree-one c.args.self.now)
    (arm_err tree-leaf.takes tree-name-kind.kind.takes 1 _
    (sym c.field_number.ensures.number ∙ c.in-1.is) _ _
    (λ charge z p h. (z.0.0, h.0.0)) _ _ _
    c.merge.result c.merge.ensures.err)

pub returns-in-4-clause-err : goal.returns-in-4-clause-err
returns-in-4-clause-err g c =
    rw (fold_out-Tree Tree-Value tree-one c.args.self.now)
    (arm_err tree-leaf.takes tree-visits-kind.kind.takes 4 _
    (sym c.field_number.ensures.number ∙ c.in-4.is) _ _
    (λ charge z p h. (z.0.1, h.0.0)) _ _ _
    (c.merge-in-4).result (c.merge-in-4).ensures.err)

pub returns-in_default-clause-err : goal.returns-in_default-clause-err
returns-in_default-clause-err g c =
    let n = tag_number c.args.tag in
    rw (fold_out-Tree Tree-Value tree-one c.args.self.now)
    (rest_err tree-known.owns tree-known.takes keeps _
    (λ p. neither _ _ (unlike n 1 (search rules))
    (unlike n 4 (search rules)))
    _ _ _ _ c.keep.result c.keep.ensures.err)
