use Rattle.wire_fields.specs.Returned.{reads_back}
use Rattle.wire_samples.specs.RuleBack.{rule_returned}
use Rattle.wire_samples.proofs.laws.rules_read_back.Goals as goal

pub returns : goal.returns
returns c = reads_back (rule_returned c.grounds.ensures) c.text_decodes.ensures
