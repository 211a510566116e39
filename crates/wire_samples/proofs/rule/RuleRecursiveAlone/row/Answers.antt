use Rattle.std.proofs.Common.{◌∙◌, ap, map, sym}
use Rattle.wire_fields.specs.Nest.{listed_row}
use Rattle.wire_samples.specs.Rule.{TestValue, RuleValue, one_test, one_rule, rule_value}
use Rattle.wire_samples.specs.declared.rule.Rule.{fold_out-Rule}
use Rattle.wire_samples.proofs.rule.RuleRecursiveAlone.row.Goals as goal

pub returns-in-1 : goal.returns-in-1
returns-in-1 c =
    rw (c.in-1.is, fold_out-Rule TestValue RuleValue one_test one_rule c.args.self.now)
    (ap (map rule_value) (c.deref-in-1).ensures.value ∙ sym (listed_row _))
