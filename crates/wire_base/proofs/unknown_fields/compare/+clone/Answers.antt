use Rattle.std.proofs.Common.{sym, ap, ◌∙◌}
use Rattle.wire_base.specs.Field.{joined}
use Rattle.wire_base.specs.UnknownFields.{fields_of}
use Rattle.wire_base.proofs.FieldLaws.{joined-none}
use Rattle.wire_base.proofs.UnknownFieldsLemmas.{joined-copy, fields_of-end}
use Rattle.wire_base.proofs.unknown_fields.compare.+clone.Goals as goal

pub UnknownFieldsClone::clone-loop-field-preserved : goal.UnknownFieldsClone::clone-loop-field-preserved
UnknownFieldsClone::clone-loop-field-preserved t c =
    rw c.in_ok-push.ensures.items
    (joined-copy _ _ _ _ _ _ c.loop-field-test.true c.field-item.is c.in_ok-clone.ensures.cases
    c.loop-field.invariant)

pub UnknownFieldsClone::clone-returns : goal.UnknownFieldsClone::clone-returns
UnknownFieldsClone::clone-returns t c = record {
  cases = sym (joined-none _)
      ∙ ap (joined (fields_of c.loop-field.fields.items))
      (sym (fields_of-end _ _ c.loop-field-test.false)) ∙ c.loop-field.invariant;
}

pub UnknownFieldsClone::clone-invariant_of-result : goal.UnknownFieldsClone::clone-invariant_of-result
UnknownFieldsClone::clone-invariant_of-result t c =
    rw (sym (joined-none _)
    ∙ ap (joined (fields_of c.loop-field.fields.items))
    (sym (fields_of-end _ _ c.loop-field-test.false)) ∙ c.loop-field.invariant
    ∙ sym c.self.view_is) c.self.invariant
