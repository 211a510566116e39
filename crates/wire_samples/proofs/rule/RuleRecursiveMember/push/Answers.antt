use Rattle.std.proofs.Common.{◌∙◌}
use Rattle.std.proofs.lemmas.Result.{on_ok_weaker}
use Rattle.wire_fields.specs.Nest.{listed_row, row_pushed}
use Rattle.wire_samples.specs.Rule.{TestValue, RuleValue, one_test, one_rule, rule_value, rule_test_value}
use Rattle.wire_samples.specs.declared.rule.Rule.{Rule, out-Rule, fold_out-Rule}
use Rattle.wire_samples.specs.declared.rule.RuleTest.{RuleTest}
use Rattle.wire_samples.specs.declared.rule.RuleTest.TheFolds.{fold-roll-Rule, map-Rule}
use Rattle.wire_samples.proofs.rule.RuleRecursiveMember.push.Goals as goal

pub returns-in-1-clause-ok : goal.returns-in-1-clause-ok
returns-in-1-clause-ok c =
    λ here many kind. on_ok_weaker c.push_message.result (λ pushed. rw (
      c.in-1.is,
      fold_out-Rule TestValue RuleValue
          one_test one_rule c.args.self.now,
    ) (fold-roll-Rule TestValue RuleValue one_test one_rule _
    ∙ row_pushed rule_value 1 (one_rule (map-Rule RuleTest Rule TestValue RuleValue rule_test_value
    rule_value (out-Rule c.args.self.now))) _ _ c.args.message (listed_row _) pushed))
    c.push_message.ensures.ok
