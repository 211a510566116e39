use Rattle.std.proofs.Common.{inr, refl, rules, sym, ◌∙◌}
use Rattle.std.specs.Prelude.{Some}
use Rattle.wire_codec.specs.TagView.{tag_number}
use Rattle.wire_fields.specs.Arms.{arm_ok, neither, unlike}
use Rattle.wire_fields.specs.Messages.{embedded_always}
use Rattle.wire_fields.specs.Floats.{float}
use Rattle.wire_fields.specs.Numbers.{numeric}
use Rattle.wire_fields.specs.Presence.{sets}
use Rattle.wire_fields.specs.Texts.{string}
use Rattle.wire_fields.specs.declared.form.Form.TheVariants.{Fixed32}
use Rattle.wire_structs.proofs.Arms.{arm_refused, last_ok, last_refused, stood_ok, stood_refused}
use Rattle.wire_stations.specs.ReportSample.{ReportSample-Shown, report_sample-struct}
use Rattle.wire_stations.specs.StationPower.{backup-of-station_power-as, station_power-front}
use Rattle.wire_stations.specs.StationPower.{station_power-shown, station_power-struct}
use Rattle.wire_stations.proofs.station_power.StationPowerInC.merge.Goals as goal

pub returns-in-8-clause-ok : goal.returns-in-8-clause-ok
returns-in-8-clause-ok c =
    rw c.stand.ensures.which (arm_ok station_power-struct.takes (sets (numeric Fixed32 float)) 8 _
    (sym c.field_number.ensures.number ∙ c.in-8.is) _ _ _ _
    (λ charge p h. (_, h, refl)) _ _ _ _ _
    c.merge_value.result (c.merge_value.ensures.ok _))

pub returns-in-8-clause-err : goal.returns-in-8-clause-err
returns-in-8-clause-err c =
    arm_refused station_power-struct.takes (sets (numeric Fixed32 float)) 8 _
    (sym c.field_number.ensures.number ∙ c.in-8.is) _ _
    (λ charge z p h. (h.0, h.1)) _ _ _
    c.merge_value.result (c.merge_value.ensures.err _)

pub returns-in-9-clause-ok : goal.returns-in-9-clause-ok
returns-in-9-clause-ok c =
    rw (c.stand-in-9).ensures.which (arm_ok station_power-struct.takes (sets string) 9 _
    (sym c.field_number.ensures.number ∙ c.in-9.is) _ _ _ _
    (λ charge p h. (_, h, refl)) _ _ _ _ _
    (c.merge_value-in-9).result ((c.merge_value-in-9).ensures.ok _))

pub returns-in-9-clause-err : goal.returns-in-9-clause-err
returns-in-9-clause-err c =
    arm_refused station_power-struct.takes (sets string) 9 _
    (sym c.field_number.ensures.number ∙ c.in-9.is) _ _
    (λ charge z p h. (h.0, h.1)) _ _ _
    (c.merge_value-in-9).result ((c.merge_value-in-9).ensures.err _)

pub returns-in_default-clause-ok : goal.returns-in_default-clause-ok
returns-in_default-clause-ok c =
    let n = tag_number c.args.tag in
    rw (c.stand-in_default).ensures.which (last_ok (station_power-front {S = ReportSample-Shown})
    (embedded_always report_sample-struct).kind backup-of-station_power-as
    (λ x. Some (inr (inr x))) n
    (λ p. neither _ _ (unlike n 8 (search rules)) (unlike n 9 (search rules)))
    (station_power-shown c.args.self.now) _ (λ charge p u h. h) _ _ _ _ _ _
    c.merge_message.result (stood_ok (embedded_always report_sample-struct).kind.takes _ _
    ((c.stand-in_default).ensures.backup refl) _ _ _ _ _ _ _ _ c.merge_message.ensures.ok))

pub returns-in_default-clause-err : goal.returns-in_default-clause-err
returns-in_default-clause-err c =
    let n = tag_number c.args.tag in
    last_refused (station_power-front {S = ReportSample-Shown})
    (embedded_always report_sample-struct).kind backup-of-station_power-as
    (λ x. Some (inr (inr x))) n
    (λ p. neither _ _ (unlike n 8 (search rules)) (unlike n 9 (search rules)))
    (station_power-shown c.args.self.now) _ (λ charge p u h. h) _ _ _
    c.merge_message.result (stood_refused (embedded_always report_sample-struct).kind.takes _ _
    ((c.stand-in_default).ensures.backup refl) _ _ _ _ _ c.merge_message.ensures.err)
