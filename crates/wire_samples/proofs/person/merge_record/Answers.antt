use Rattle.std.proofs.Common.{rules, refl, ◌∙◌, sym}
use Rattle.wire_codec.specs.TagView.{tag_number}
use Rattle.wire_codec.specs.ValueMap.{int32}
use Rattle.wire_fields.specs.Arms.{arm_ok, arm_err}
use Rattle.wire_fields.specs.declared.form.Form.TheVariants.{Varint}
use Rattle.wire_fields.specs.Numbers.{numeric}
use Rattle.wire_fields.specs.Packed.{adds_numbers}
use Rattle.wire_fields.specs.Presence.{sets}
use Rattle.wire_fields.specs.Shape.{keeps}
use Rattle.wire_fields.specs.Texts.{string}
use Rattle.wire_samples.specs.Person.{PersonTakes, person_value}
use Rattle.wire_samples.proofs.PersonTable.{id_taken, id_back, name_taken, name_back, scores_taken}
use Rattle.wire_samples.proofs.PersonTable.{scores_back, unknown_taken, unknown_back}
use Rattle.wire_samples.proofs.person.merge_record.Goals as goal

pub returns-in-1-clause-ok : goal.returns-in-1-clause-ok
returns-in-1-clause-ok g c =
    arm_ok PersonTakes (sets (numeric Varint int32)) 1 _
    (sym c.field_number.ensures.number ∙ c.in-1.is) (person_value c.args.person.now) _ _ _
    (id_taken (person_value c.args.person.now) _) _ _ _ _ _ c.merge.result c.merge.ensures.ok

pub returns-in-1-clause-err : goal.returns-in-1-clause-err
returns-in-1-clause-err g c =
    arm_err PersonTakes (sets (numeric Varint int32)) 1 _
    (sym c.field_number.ensures.number ∙ c.in-1.is) (person_value c.args.person.now) _
    (id_back (person_value c.args.person.now)) _ _ _ c.merge.result c.merge.ensures.err

pub returns-in-2-clause-ok : goal.returns-in-2-clause-ok
returns-in-2-clause-ok g c =
    arm_ok PersonTakes (sets string) 2 _
    (sym c.field_number.ensures.number ∙ c.in-2.is) (person_value c.args.person.now) _ _ _
    (name_taken (person_value c.args.person.now) _) _ _ _ _ _ c.merge-in-2.result
    c.merge-in-2.ensures.ok

pub returns-in-2-clause-err : goal.returns-in-2-clause-err
returns-in-2-clause-err g c =
    arm_err PersonTakes (sets string) 2 _
    (sym c.field_number.ensures.number ∙ c.in-2.is) (person_value c.args.person.now) _
    (name_back (person_value c.args.person.now)) _ _ _ c.merge-in-2.result c.merge-in-2.ensures.err

pub returns-in-3-clause-ok : goal.returns-in-3-clause-ok
returns-in-3-clause-ok g c =
    arm_ok PersonTakes (adds_numbers Varint int32) 3 _
    (sym c.field_number.ensures.number ∙ c.in-3.is) (person_value c.args.person.now) _ _ _
    (scores_taken (person_value c.args.person.now) _) _ _ _ _ _ c.merge_scores.result
    c.merge_scores.ensures.ok

pub returns-in-3-clause-err : goal.returns-in-3-clause-err
returns-in-3-clause-err g c =
    arm_err PersonTakes (adds_numbers Varint int32) 3 _
    (sym c.field_number.ensures.number ∙ c.in-3.is) (person_value c.args.person.now) _
    (scores_back (person_value c.args.person.now)) _ _ _ c.merge_scores.result
    c.merge_scores.ensures.err

pub returns-in_default-clause-ok : goal.returns-in_default-clause-ok
returns-in_default-clause-ok g c =
    arm_ok PersonTakes keeps (tag_number c.args.tag) _ refl (person_value c.args.person.now) _ _ _
    (unknown_taken (person_value c.args.person.now) (tag_number c.args.tag) (search rules)
    (search rules) (search rules) _) _ _ _ _ _ c.keep.result c.keep.ensures.ok

pub returns-in_default-clause-err : goal.returns-in_default-clause-err
returns-in_default-clause-err g c =
    arm_err PersonTakes keeps (tag_number c.args.tag) _ refl (person_value c.args.person.now) _
    (unknown_back (person_value c.args.person.now) (tag_number c.args.tag) (search rules)
    (search rules) (search rules)) _ _ _ c.keep.result c.keep.ensures.err
