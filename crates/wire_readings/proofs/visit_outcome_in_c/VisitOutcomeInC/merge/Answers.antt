use Rattle.std.proofs.Common.{refl}
use Rattle.std.specs.Prelude.{Some}
use Rattle.wire_codec.specs.TagView.{tag_number}
use Rattle.wire_codec.specs.ValueMap.{bool}
use Rattle.wire_fields.specs.Arms.{arm_ok}
use Rattle.wire_fields.specs.Numbers.{numeric}
use Rattle.wire_fields.specs.Presence.{always}
use Rattle.wire_fields.specs.declared.form.Form.TheVariants.{Varint}
use Rattle.wire_readings.specs.VisitOutcomeInC.{visit_outcome-shown, visit_outcome-struct}
use Rattle.wire_structs.proofs.Arms.{arm_refused}
use Rattle.wire_readings.proofs.visit_outcome_in_c.VisitOutcomeInC.merge.Goals as goal

pub returns-clause-ok : goal.returns-clause-ok
returns-clause-ok c =
    let n = tag_number c.args.tag in
    rw c.stand.ensures.which (arm_ok visit_outcome-struct.takes
    (always (numeric Varint bool)).kind.takes n n
    refl _ _ _ _
    (λ charge p h. (_, h, refl)) _ _ _ _ _
    c.merge_value.result (c.merge_value.ensures.ok _))

pub returns-clause-err : goal.returns-clause-err
returns-clause-err c =
    let n = tag_number c.args.tag in
    arm_refused visit_outcome-struct.takes
    (always (numeric Varint bool)).kind.takes n n
    refl _ _
    (λ charge z p h. (h.0, h.1)) _ _ _
    c.merge_value.result (c.merge_value.ensures.err _)
