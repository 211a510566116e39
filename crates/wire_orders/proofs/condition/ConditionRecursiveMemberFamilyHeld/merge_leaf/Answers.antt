use Rattle.std.proofs.Common.{ap, refl, rules, sym, ◌∙◌, ◌≡◌}
use Rattle.std.proofs.lemmas.Result.{err_from_is_err_and}
use Rattle.std.specs.Prelude.{None, Option, Some, false, is_some, ◌≡◌}
use Rattle.wire_codec.specs.Field.{Payload}
use Rattle.wire_codec.specs.TagView.{tag_number}
use Rattle.wire_codec.specs.ValueMap.{uint32}
use Rattle.wire_fields.specs.Arms.{arm_err, from_last, neither, to_last, unlike, untaken}
use Rattle.wire_fields.specs.Leaving.{keeps_beside}
use Rattle.wire_fields.specs.Messages.{or_else}
use Rattle.wire_fields.specs.Nest.{rows_of}
use Rattle.wire_fields.specs.NestArms.{leaf_ok, rows_ok}
use Rattle.wire_fields.specs.NestChoice.{first_choice, rows_beside_field, rows_if}
use Rattle.wire_fields.specs.Numbers.{numeric}
use Rattle.wire_fields.specs.Presence.{always}
use Rattle.wire_fields.specs.Shape.{keeps}
use Rattle.wire_fields.specs.Sums.{first_err, first_takes, first_untaken}
use Rattle.wire_fields.specs.declared.form.Form.TheVariants.{Varint}
use Rattle.wire_orders.specs.ConditionFamily.{condition-choice, condition-known, condition-leaf}
use Rattle.wire_orders.specs.ConditionFamily.{condition-least-kind, condition-note-kind}
use Rattle.wire_orders.specs.ConditionFamily.{condition-region-kind}
use Rattle.wire_orders.specs.ConditionTest.{place-of-condition_test-closed}
use Rattle.wire_orders.specs.declared.condition.Condition.{Condition-F, fold_out-Condition}
use Rattle.wire_orders.specs.declared.condition.Condition.{out-Condition}
use Rattle.wire_orders.specs.declared.condition_test.ConditionTest.TheFolds.{fold-roll-Condition}
use Rattle.wire_orders.specs.declared.condition_test.ConditionTest.TheFolds.{map-Condition}
use Rattle.wire_orders.specs.ConditionFamily as family
use Rattle.wire_orders.specs.declared.condition_test.ConditionTest.{ConditionTest}
use Rattle.wire_orders.specs.declared.condition.Condition.{Condition}
use Rattle.wire_orders.specs.declared.rebate.Rebate.{Rebate}
use Rattle.wire_orders.specs.declared.rebate_unless_entry.RebateUnlessEntry.{RebateUnlessEntry}
use Rattle.wire_orders.proofs.condition.ConditionRecursiveMemberFamilyHeld.merge_leaf.Goals as goal

pub returns-in-1-clause-err : goal.returns-in-1-clause-err
returns-in-1-clause-err g c =
    rw (fold_out-Condition family.ConditionTest-Held family.Family-Tree family.Family-Tree family.Family-Tree family.condition_test-one family.condition-one family.rebate-one family.rebate_unless_entry-one c.args.self.now)
    (first_err _ condition-leaf.takes _ _ _ _ _ _
    (arm_err condition-leaf.takes condition-note-kind.kind.takes 1 _
    (sym c.field_number.ensures.number ∙ c.in-1.is) _ _
    (λ charge z p h. (z.0.0.0, h.0.0.0)) _ _ _
    c.merge.result c.merge.ensures.err))

pub returns-in_err-value-in-4-clause-err : goal.returns-in_err-value-in-4-clause-err
returns-in_err-value-in-4-clause-err g c =
    let r = c.from_residual in
    let p = err_from_is_err_and r.result r.ensures.1 in
    rw (p.1, p.2)
    (rw (fold_out-Condition family.ConditionTest-Held family.Family-Tree family.Family-Tree family.Family-Tree family.condition_test-one family.condition-one family.rebate-one family.rebate_unless_entry-one c.args.self.now)
    (λ other. first_untaken _ condition-leaf.takes _ _ _ _ _
    (untaken condition-leaf.takes (always (numeric Varint uint32)).kind.takes 4 _
    (sym c.field_number.ensures.number ∙ c.in-4.is) _ _
    (λ charge z p h. (h.0.0.0.0, h.0.0.0.1)) _ _ _
    ((c.in_err-value-in-4).ensures.err other))))

held : (m : Condition-F ConditionTest Condition Rebate RebateUnlessEntry) (k : Option ConditionTest)
    → or_else family.condition_test-none (map-Condition ConditionTest Condition Rebate RebateUnlessEntry family.ConditionTest-Held family.Family-Tree family.Family-Tree family.Family-Tree family.condition_test-value family.condition-value family.rebate-value family.rebate_unless_entry-value
    (record m { test = k })).test
    ≡ family.condition_test-held k
held m None = refl
held m (Some k) = refl

rows_then : (m : Condition-F family.ConditionTest-Held family.Family-Tree family.Family-Tree family.Family-Tree) (t u : family.ConditionTest-Held)
    → u.1 ≡ family.condition_test-beside u.0 t.1
    → rows_of (family.condition-one (record m { test = Some u }))
    ≡ rows_if (first_choice condition-choice) (is_some u.0)
    (rows_of (family.condition-one (record m { test = Some t })))
rows_then m t (None, rows) h =
    ap (λ x. rows_of (family.condition-one (record m { test = Some (None, x) }))) h
rows_then m t (Some one, rows) h =
    ap (λ x. rows_of (family.condition-one (record m { test = Some (Some one, x) }))) h

pub returns-in-6-clause-err : goal.returns-in-6-clause-err
returns-in-6-clause-err g c =
    rw (fold_out-Condition family.ConditionTest-Held family.Family-Tree family.Family-Tree family.Family-Tree family.condition_test-one family.condition-one family.rebate-one family.rebate_unless_entry-one c.args.self.now)
    (first_err _ condition-leaf.takes _ _ _ _ _ _
    (arm_err condition-leaf.takes place-of-condition_test-closed 6 _
    (sym c.field_number.ensures.number ∙ c.in-6.is) _ _
    (λ charge z p h. ((z.0.0.1, z.1), rw (← held (out-Condition c.args.self.now) (out-Condition c.args.self.now).test) h.0.0)) _ _ _
    c.set_or_keep_place.result c.set_or_keep_place.ensures.err))

pub returns-in-6-clause-ok : goal.returns-in-6-clause-ok
returns-in-6-clause-ok g c =
    leaf_ok (first_takes condition-leaf.takes) place-of-condition_test-closed 6 _
    (sym c.field_number.ensures.number ∙ c.in-6.is) _ _ _ _
    (fold_out-Condition family.ConditionTest-Held family.Family-Tree family.Family-Tree family.Family-Tree family.condition_test-one family.condition-one family.rebate-one family.rebate_unless_entry-one c.args.self.now)
    (fold-roll-Condition family.ConditionTest-Held family.Family-Tree family.Family-Tree family.Family-Tree family.condition_test-one family.condition-one family.rebate-one family.rebate_unless_entry-one
    (record (out-Condition c.args.self.now) { test = c.set_or_keep_place.new.held; unknown = c.set_or_keep_place.new.unknown }))
    _ _
    (λ charge p h. ((rw (held (out-Condition c.args.self.now) (out-Condition c.args.self.now).test, held (out-Condition c.args.self.now) c.set_or_keep_place.new.held) h, refl), refl))
    _ _ _ _ _ c.set_or_keep_place.result c.set_or_keep_place.ensures.ok

pub returns-in-6-clause-rows : goal.returns-in-6-clause-rows
returns-in-6-clause-rows g c =
    rows_ok (rows_beside_field (first_choice condition-choice)) 6 _
    (sym c.field_number.ensures.number ∙ c.in-6.is) _ _ _ _
    (fold_out-Condition family.ConditionTest-Held family.Family-Tree family.Family-Tree family.Family-Tree family.condition_test-one family.condition-one family.rebate-one family.rebate_unless_entry-one c.args.self.now)
    (fold-roll-Condition family.ConditionTest-Held family.Family-Tree family.Family-Tree family.Family-Tree family.condition_test-one family.condition-one family.rebate-one family.rebate_unless_entry-one _)
    (λ h. rows_then (map-Condition ConditionTest Condition Rebate RebateUnlessEntry family.ConditionTest-Held family.Family-Tree family.Family-Tree family.Family-Tree family.condition_test-value family.condition-value family.rebate-value family.rebate_unless_entry-value (out-Condition c.args.self.now))
    (or_else family.condition_test-none (map-Condition ConditionTest Condition Rebate RebateUnlessEntry family.ConditionTest-Held family.Family-Tree family.Family-Tree family.Family-Tree family.condition_test-value family.condition-value family.rebate-value family.rebate_unless_entry-value (out-Condition c.args.self.now)).test)
    (or_else family.condition_test-none
    (map-Condition ConditionTest Condition Rebate RebateUnlessEntry family.ConditionTest-Held family.Family-Tree family.Family-Tree family.Family-Tree family.condition_test-value family.condition-value family.rebate-value family.rebate_unless_entry-value (record (out-Condition c.args.self.now) { test = c.set_or_keep_place.new.held })).test)
    (rw (held (out-Condition c.args.self.now) (out-Condition c.args.self.now).test, held (out-Condition c.args.self.now) c.set_or_keep_place.new.held) h))
    c.set_or_keep_place.result c.set_or_keep_place.ensures.rows

pub returns-in-3-clause-err : goal.returns-in-3-clause-err
returns-in-3-clause-err g c =
    rw (fold_out-Condition family.ConditionTest-Held family.Family-Tree family.Family-Tree family.Family-Tree family.condition_test-one family.condition-one family.rebate-one family.rebate_unless_entry-one c.args.self.now)
    (first_err _ condition-leaf.takes _ _ _ _ _ _
    (arm_err condition-leaf.takes condition-least-kind.kind.takes 3 _
    (sym c.field_number.ensures.number ∙ c.in-3.is) _ _
    (λ charge z p h. (z.0.1.0, h.0.0.0)) _ _ _
    (c.merge-in-3).result (c.merge-in-3).ensures.err))

pub returns-in-5-clause-err : goal.returns-in-5-clause-err
returns-in-5-clause-err g c =
    rw (fold_out-Condition family.ConditionTest-Held family.Family-Tree family.Family-Tree family.Family-Tree family.condition_test-one family.condition-one family.rebate-one family.rebate_unless_entry-one c.args.self.now)
    (first_err _ condition-leaf.takes _ _ _ _ _ _
    (arm_err condition-leaf.takes condition-region-kind.takes 5 _
    (sym c.field_number.ensures.number ∙ c.in-5.is) _ _
    (λ charge z p h. ((z.0.1.1, z.1), h.0.0)) _ _ _
    c.merge_closed.result c.merge_closed.ensures.err))

pub returns-in_default-clause-ok : goal.returns-in_default-clause-ok
returns-in_default-clause-ok g c =
    let n = tag_number c.args.tag in
    let other : (p : Payload) → condition-known.owns n p ≡ false = λ p. neither _ _ (neither _ _ (unlike n 1 (search rules))
    (neither _ _ (unlike n 4 (search rules))
    (unlike n 6 (search rules))))
    (neither _ _ (unlike n 3 (search rules))
    (unlike n 5 (search rules))) in
    leaf_ok (first_takes condition-leaf.takes) keeps n n refl _ _ _ _
    (fold_out-Condition family.ConditionTest-Held family.Family-Tree family.Family-Tree family.Family-Tree family.condition_test-one family.condition-one family.rebate-one family.rebate_unless_entry-one c.args.self.now)
    (fold-roll-Condition family.ConditionTest-Held family.Family-Tree family.Family-Tree family.Family-Tree family.condition_test-one family.condition-one family.rebate-one family.rebate_unless_entry-one _) _ _
    (λ charge p h. to_last condition-known.owns condition-known.takes keeps_beside n other
    _ _ charge p (h, refl))
    _ _ _ _ _ c.keep.result c.keep.ensures.ok

pub returns-in_default-clause-err : goal.returns-in_default-clause-err
returns-in_default-clause-err g c =
    let n = tag_number c.args.tag in
    rw (fold_out-Condition family.ConditionTest-Held family.Family-Tree family.Family-Tree family.Family-Tree family.condition_test-one family.condition-one family.rebate-one family.rebate_unless_entry-one c.args.self.now)
    (first_err _ condition-leaf.takes _ _ _ _ _ _
    (arm_err condition-leaf.takes keeps n n refl _ _
    (λ charge z p h. (
      z.1,
      (from_last condition-known.owns condition-known.takes keeps_beside n
          (λ p. neither _ _ (neither _ _ (unlike n 1 (search rules))
          (neither _ _ (unlike n 4 (search rules))
          (unlike n 6 (search rules))))
          (neither _ _ (unlike n 3 (search rules))
          (unlike n 5 (search rules))))
          _ z charge p h).0,
    ))
    _ _ _ c.keep.result c.keep.ensures.err))
