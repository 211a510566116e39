use Rattle.wire_fields.proofs.NestPayloads.{embedded_of, within_of}
use Rattle.wire_samples.specs.NodeSteps.{NodeTakes}
use Rattle.wire_samples.proofs.laws.payloads_are_embedded.Goals as goal

pub returns : goal.returns
returns c = λ l k m z old now new rest charge h. (
  λ taken. embedded_of NodeTakes c.delimited_is_read.ensures l k m old now rest h new
      charge z taken,
  λ taken. within_of NodeTakes c.delimited_is_read.ensures l k m old now rest h new
      charge z taken,
)
