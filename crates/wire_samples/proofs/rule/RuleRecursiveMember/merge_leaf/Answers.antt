use Rattle.std.proofs.Common.{◌∙◌, sym, rules}
use Rattle.std.proofs.lemmas.Result.{err_from_is_err_and}
use Rattle.wire_codec.specs.TagView.{tag_number}
use Rattle.wire_codec.specs.ValueMap.{uint64}
use Rattle.wire_fields.specs.Arms.{untaken, arm_err, rest_err, neither, unlike}
use Rattle.wire_fields.specs.declared.form.Form.TheVariants.{Varint}
use Rattle.wire_fields.specs.Numbers.{numeric}
use Rattle.wire_fields.specs.Presence.{always}
use Rattle.wire_fields.specs.Shape.{keeps}
use Rattle.wire_fields.specs.Texts.{string}
use Rattle.wire_samples.specs.Rule.{TestValue, RuleValue, one_test, one_rule, rule_name, rule_known, rule_leaf}
use Rattle.wire_samples.specs.declared.rule.Rule.{fold_out-Rule}
use Rattle.wire_samples.proofs.rule.RuleRecursiveMember.merge_leaf.Goals as goal

pub returns-in-1-clause-err : goal.returns-in-1-clause-err
returns-in-1-clause-err g c =
    rw (fold_out-Rule TestValue RuleValue one_test one_rule c.args.self.now)
    (arm_err rule_leaf.takes rule_name.takes 1 _
    (sym c.field_number.ensures.number ∙ c.in-1.is) _ _ (λ charge z p h. (z.0.0, h.0.0)) _ _ _
    c.merge.result c.merge.ensures.err)

pub returns-in_err-merge-in-2-clause-err : goal.returns-in_err-merge-in-2-clause-err
returns-in_err-merge-in-2-clause-err g c =
    let r = c.from_residual in
    let p = err_from_is_err_and r.result r.ensures.1 in
    rw (p.1, p.2, fold_out-Rule TestValue RuleValue one_test one_rule c.args.self.now)
    (λ other. untaken rule_leaf.takes (always string).kind.takes 2 _
    (sym c.field_number.ensures.number ∙ c.in-2.is) _ _ (λ charge z p h. (h.0.0.0, h.0.0.1)) _ _ _
    ((c.in_err-merge-in-2).ensures.err other))

pub returns-in_err-merge-in-5-clause-err : goal.returns-in_err-merge-in-5-clause-err
returns-in_err-merge-in-5-clause-err g c =
    let r = c.from_residual-in_err-merge-in-5 in
    let p = err_from_is_err_and r.result r.ensures.1 in
    rw (p.1, p.2, fold_out-Rule TestValue RuleValue one_test one_rule c.args.self.now)
    (λ other. untaken rule_leaf.takes (always (numeric Varint uint64)).kind.takes 5 _
    (sym c.field_number.ensures.number ∙ c.in-5.is) _ _ (λ charge z p h. (h.0.0.0, h.0.0.1)) _ _ _
    ((c.in_err-merge-in-5).ensures.err other))

pub returns-in_default-clause-err : goal.returns-in_default-clause-err
returns-in_default-clause-err g c =
    rw (fold_out-Rule TestValue RuleValue one_test one_rule c.args.self.now)
    (rest_err rule_known.owns rule_known.takes keeps _
    (λ p. neither _ _ (unlike (tag_number c.args.tag) 1 (search rules))
    (neither _ _ (unlike (tag_number c.args.tag) 2 (search rules))
    (unlike (tag_number c.args.tag) 5 (search rules)))) _ _ _ _ c.keep.result c.keep.ensures.err)
