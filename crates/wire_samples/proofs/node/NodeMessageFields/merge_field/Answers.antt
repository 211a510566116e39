use Rattle.std.proofs.Common.{refl}
use Rattle.wire_codec.specs.TagView.{tag_number}
use Rattle.wire_fields.specs.Arms.{arm_ok, arm_err}
use Rattle.wire_fields.specs.NestTable.{nest_takes}
use Rattle.wire_samples.proofs.NodeNests.{in_nest, from_nest}
use Rattle.wire_samples.specs.Node.{node_value}
use Rattle.wire_samples.specs.NodeSteps.{NodeTakes}
use Rattle.wire_samples.specs.NodeTable.{as_nest, node_nest, node_table}
use Rattle.wire_samples.proofs.node.NodeMessageFields.merge_field.Goals as goal

pub returns-clause-ok : goal.returns-clause-ok
returns-clause-ok g c =
    arm_ok NodeTakes (nest_takes node_table) (tag_number c.args.tag) _ refl
    (node_value c.args.self.now) (node_value c.merge_held.new.message) _ _
    (λ charge p h. from_nest _ _ _ p charge h) _ _ _ _ _ c.merge_held.result
    c.merge_held.ensures.ok

pub returns-clause-err : goal.returns-clause-err
returns-clause-err g c =
    arm_err NodeTakes (nest_takes node_table) (tag_number c.args.tag) _ refl
    (node_value c.args.self.now) (node_nest c.args.self.now)
    (λ charge z p h. (as_nest z, in_nest c.records_in_order.ensures.reading h)) _ _ _
    c.merge_held.result c.merge_held.ensures.err
