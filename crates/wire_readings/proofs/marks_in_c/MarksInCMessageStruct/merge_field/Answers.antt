use Rattle.std.proofs.Common.{refl, rules, sym, ◌∙◌}
use Rattle.wire_codec.specs.TagView.{tag_number}
use Rattle.wire_fields.specs.Arms.{arm_ok, unlike}
use Rattle.wire_readings.specs.MarksInC.{marks-marks-count_kind, marks-struct, marks-struct_known}
use Rattle.wire_structs.proofs.Arms.{arm_refused, rest_refused}
use Rattle.wire_structs.specs.Passed.{passes}
use Rattle.wire_readings.proofs.marks_in_c.MarksInCMessageStruct.merge_field.Goals as goal

pub returns-in-1-clause-ok : goal.returns-in-1-clause-ok
returns-in-1-clause-ok c =
    arm_ok marks-struct.takes marks-marks-count_kind.kind.takes 1 _
    (sym c.field_number.ensures.number ∙ c.in-1.is) _ _ _ _
    (λ charge p h. (h, refl)) _ _ _ _ _
    c.merge_numbers_count.result (c.merge_numbers_count.ensures.ok _)

pub returns-in-1-clause-err : goal.returns-in-1-clause-err
returns-in-1-clause-err c =
    arm_refused marks-struct.takes marks-marks-count_kind.kind.takes 1 _
    (sym c.field_number.ensures.number ∙ c.in-1.is) _ _
    (λ charge z p h. (z.0, h.0)) _ _ _
    c.merge_numbers_count.result (c.merge_numbers_count.ensures.err _)

pub returns-in_default-clause-err : goal.returns-in_default-clause-err
returns-in_default-clause-err c =
    let n = tag_number c.args.tag in
    rest_refused marks-struct_known.owns marks-struct_known.takes passes n
    (λ p. unlike n 1 (search rules))
    _ _ _ _ c.pass_by.result c.pass_by.ensures.err
