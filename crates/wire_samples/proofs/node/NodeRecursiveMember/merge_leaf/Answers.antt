use Rattle.std.proofs.Common.{◌∙◌, sym, rules}
use Rattle.wire_codec.specs.TagView.{tag_number}
use Rattle.wire_codec.specs.ValueMap.{sint64}
use Rattle.wire_fields.specs.Arms.{arm_err, rest_err, unlike}
use Rattle.wire_fields.specs.declared.form.Form.TheVariants.{Varint}
use Rattle.wire_fields.specs.Numbers.{numeric}
use Rattle.wire_fields.specs.Presence.{sets}
use Rattle.wire_fields.specs.Shape.{keeps}
use Rattle.wire_samples.specs.declared.node.Node.{fold_out-Node}
use Rattle.wire_samples.specs.Node.{NodeValue, one_node}
use Rattle.wire_samples.specs.NodeTable.{node_leaf, node_number}
use Rattle.wire_samples.proofs.node.NodeRecursiveMember.merge_leaf.Goals as goal

pub returns-in-1-clause-err : goal.returns-in-1-clause-err
returns-in-1-clause-err g c =
    rw (fold_out-Node NodeValue one_node c.args.self.now)
    (arm_err node_leaf.takes (sets (numeric Varint sint64)) 1 _
    (sym c.field_number.ensures.number ∙ c.in-1.is) _ _ (λ charge z p h. (z.0, h.0)) _ _ _
    c.merge.result c.merge.ensures.err)

pub returns-in_default-clause-err : goal.returns-in_default-clause-err
returns-in_default-clause-err g c =
    rw (fold_out-Node NodeValue one_node c.args.self.now)
    (rest_err node_number.owns node_number.takes keeps _
    (λ p. unlike (tag_number c.args.tag) 1 (search rules)) _ _ _ _ c.keep.result
    c.keep.ensures.err)
