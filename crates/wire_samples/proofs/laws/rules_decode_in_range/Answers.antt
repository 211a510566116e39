use Rattle.wire_fields.specs.Stays.{decodes_in_range}
use Rattle.wire_samples.specs.RuleStays.{rule_decodes}
use Rattle.wire_samples.proofs.laws.rules_decode_in_range.Goals as goal

pub returns : goal.returns
returns c = decodes_in_range c.grounds.ensures (rule_decodes c.grounds.ensures)
