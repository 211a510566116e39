use Rattle.std.proofs.Common.{refl, rules, sym, ◌∙◌}
use Rattle.wire_codec.specs.TagView.{tag_number}
use Rattle.wire_fields.specs.Arms.{arm_ok, neither, unlike}
use Rattle.wire_stations.specs.ReportSample.{report_sample-struct}
use Rattle.wire_stations.specs.Station.{station-height-kind, station-key-kind, station-last-kind}
use Rattle.wire_stations.specs.Station.{station-level-kind, station-name-kind, station-note-kind}
use Rattle.wire_stations.specs.Station.{station-samples_count-kind, station-staffed-kind}
use Rattle.wire_stations.specs.Station.{station-struct}
use Rattle.wire_stations.specs.Station.{station-struct-known, station-tags_count-kind}
use Rattle.wire_stations.specs.StationPower.{station_power-struct}
use Rattle.wire_structs.proofs.Arms.{arm_refused, rest_refused}
use Rattle.wire_structs.specs.Passed.{passes}
use Rattle.wire_stations.proofs.station.StationInCMessageStruct.merge_field.Goals as goal

pub returns-in-1-clause-ok : goal.returns-in-1-clause-ok
returns-in-1-clause-ok c =
    arm_ok station-struct.takes station-name-kind.kind.takes 1 _
    (sym c.field_number.ensures.number ∙ c.in-1.is) _ _ _ _
    (λ charge p h. (((((h, refl), refl), refl), refl), refl)) _ _ _ _ _
    c.merge_value.result (c.merge_value.ensures.ok _)

pub returns-in-1-clause-err : goal.returns-in-1-clause-err
returns-in-1-clause-err c =
    arm_refused station-struct.takes station-name-kind.kind.takes 1 _
    (sym c.field_number.ensures.number ∙ c.in-1.is) _ _
    (λ charge z p h. (z.0.0.0.0.0, h.0.0.0.0.0)) _ _ _
    c.merge_value.result (c.merge_value.ensures.err _)

pub returns-in-2-clause-ok : goal.returns-in-2-clause-ok
returns-in-2-clause-ok c =
    arm_ok station-struct.takes station-level-kind.kind.takes 2 _
    (sym c.field_number.ensures.number ∙ c.in-2.is) _ _ _ _
    (λ charge p h. (((((h, refl), refl), refl), refl), refl)) _ _ _ _ _
    (c.merge_value-in-2).result ((c.merge_value-in-2).ensures.ok _)

pub returns-in-2-clause-err : goal.returns-in-2-clause-err
returns-in-2-clause-err c =
    arm_refused station-struct.takes station-level-kind.kind.takes 2 _
    (sym c.field_number.ensures.number ∙ c.in-2.is) _ _
    (λ charge z p h. (z.0.0.0.0.1, h.0.0.0.0.0)) _ _ _
    (c.merge_value-in-2).result ((c.merge_value-in-2).ensures.err _)

pub returns-in-3-clause-ok : goal.returns-in-3-clause-ok
returns-in-3-clause-ok c =
    arm_ok station-struct.takes station-height-kind.kind.takes 3 _
    (sym c.field_number.ensures.number ∙ c.in-3.is) _ _ _ _
    (λ charge p h. (((((h, refl), refl), refl), refl), refl)) _ _ _ _ _
    c.merge_optional.result (c.merge_optional.ensures.ok _)

pub returns-in-3-clause-err : goal.returns-in-3-clause-err
returns-in-3-clause-err c =
    arm_refused station-struct.takes station-height-kind.kind.takes 3 _
    (sym c.field_number.ensures.number ∙ c.in-3.is) _ _
    (λ charge z p h. (z.0.0.0.1.0, h.0.0.0.0.0)) _ _ _
    c.merge_optional.result (c.merge_optional.ensures.err _)

pub returns-in-4-clause-ok : goal.returns-in-4-clause-ok
returns-in-4-clause-ok c =
    arm_ok station-struct.takes station-note-kind.kind.takes 4 _
    (sym c.field_number.ensures.number ∙ c.in-4.is) _ _ _ _
    (λ charge p h. (((((h, refl), refl), refl), refl), refl)) _ _ _ _ _
    (c.merge_optional-in-4).result ((c.merge_optional-in-4).ensures.ok _)

pub returns-in-4-clause-err : goal.returns-in-4-clause-err
returns-in-4-clause-err c =
    arm_refused station-struct.takes station-note-kind.kind.takes 4 _
    (sym c.field_number.ensures.number ∙ c.in-4.is) _ _
    (λ charge z p h. (z.0.0.0.1.1, h.0.0.0.0.0)) _ _ _
    (c.merge_optional-in-4).result ((c.merge_optional-in-4).ensures.err _)

pub returns-in-5-clause-ok : goal.returns-in-5-clause-ok
returns-in-5-clause-ok c =
    arm_ok station-struct.takes (station-last-kind report_sample-struct).kind.takes 5 _
    (sym c.field_number.ensures.number ∙ c.in-5.is) _ _ _ _
    (λ charge p h. (((((h, refl), refl), refl), refl), refl)) _ _ _ _ _
    c.merge_optional_message.result c.merge_optional_message.ensures.ok

pub returns-in-5-clause-err : goal.returns-in-5-clause-err
returns-in-5-clause-err c =
    arm_refused station-struct.takes (station-last-kind report_sample-struct).kind.takes 5 _
    (sym c.field_number.ensures.number ∙ c.in-5.is) _ _
    (λ charge z p h. (z.0.0.1.0.0, h.0.0.0.0.0)) _ _ _
    c.merge_optional_message.result c.merge_optional_message.ensures.err

pub returns-in-6-clause-ok : goal.returns-in-6-clause-ok
returns-in-6-clause-ok c =
    arm_ok station-struct.takes station-key-kind.kind.takes 6 _
    (sym c.field_number.ensures.number ∙ c.in-6.is) _ _ _ _
    (λ charge p h. (((((h, refl), refl), refl), refl), refl)) _ _ _ _ _
    (c.merge_value-in-6).result ((c.merge_value-in-6).ensures.ok _)

pub returns-in-6-clause-err : goal.returns-in-6-clause-err
returns-in-6-clause-err c =
    arm_refused station-struct.takes station-key-kind.kind.takes 6 _
    (sym c.field_number.ensures.number ∙ c.in-6.is) _ _
    (λ charge z p h. (z.0.0.1.0.1, h.0.0.0.0.0)) _ _ _
    (c.merge_value-in-6).result ((c.merge_value-in-6).ensures.err _)

pub returns-in-7-clause-ok : goal.returns-in-7-clause-ok
returns-in-7-clause-ok c =
    arm_ok station-struct.takes station-staffed-kind.kind.takes 7 _
    (sym c.field_number.ensures.number ∙ c.in-7.is) _ _ _ _
    (λ charge p h. (((((h, refl), refl), refl), refl), refl)) _ _ _ _ _
    (c.merge_value-in-7).result ((c.merge_value-in-7).ensures.ok _)

pub returns-in-7-clause-err : goal.returns-in-7-clause-err
returns-in-7-clause-err c =
    arm_refused station-struct.takes station-staffed-kind.kind.takes 7 _
    (sym c.field_number.ensures.number ∙ c.in-7.is) _ _
    (λ charge z p h. (z.0.0.1.1.0, h.0.0.0.0.0)) _ _ _
    (c.merge_value-in-7).result ((c.merge_value-in-7).ensures.err _)

pub returns-in-8-clause-ok : goal.returns-in-8-clause-ok
returns-in-8-clause-ok c =
    arm_ok station-struct.takes station_power-struct.takes 8 _
    (sym c.field_number.ensures.number ∙ c.in-8.is) _ _ _ _
    (λ charge p h. (((((h, refl), refl), refl), refl), refl)) _ _ _ _ _
    c.merge.result c.merge.ensures.ok

pub returns-in-8-clause-err : goal.returns-in-8-clause-err
returns-in-8-clause-err c =
    arm_refused station-struct.takes station_power-struct.takes 8 _
    (sym c.field_number.ensures.number ∙ c.in-8.is) _ _
    (λ charge z p h. (z.0.0.1.1.1, h.0.0.0.0.0)) _ _ _
    c.merge.result c.merge.ensures.err

pub returns-in-9-clause-ok : goal.returns-in-9-clause-ok
returns-in-9-clause-ok c =
    arm_ok station-struct.takes station_power-struct.takes 9 _
    (sym c.field_number.ensures.number ∙ c.in-9.is) _ _ _ _
    (λ charge p h. (((((h, refl), refl), refl), refl), refl)) _ _ _ _ _
    (c.merge-in-9).result (c.merge-in-9).ensures.ok

pub returns-in-9-clause-err : goal.returns-in-9-clause-err
returns-in-9-clause-err c =
    arm_refused station-struct.takes station_power-struct.takes 9 _
    (sym c.field_number.ensures.number ∙ c.in-9.is) _ _
    (λ charge z p h. (z.0.0.1.1.1, h.0.0.0.0.0)) _ _ _
    (c.merge-in-9).result (c.merge-in-9).ensures.err

pub returns-in-10-clause-ok : goal.returns-in-10-clause-ok
returns-in-10-clause-ok c =
    arm_ok station-struct.takes station_power-struct.takes 10 _
    (sym c.field_number.ensures.number ∙ c.in-10.is) _ _ _ _
    (λ charge p h. (((((h, refl), refl), refl), refl), refl)) _ _ _ _ _
    (c.merge-in-10).result (c.merge-in-10).ensures.ok

pub returns-in-10-clause-err : goal.returns-in-10-clause-err
returns-in-10-clause-err c =
    arm_refused station-struct.takes station_power-struct.takes 10 _
    (sym c.field_number.ensures.number ∙ c.in-10.is) _ _
    (λ charge z p h. (z.0.0.1.1.1, h.0.0.0.0.0)) _ _ _
    (c.merge-in-10).result (c.merge-in-10).ensures.err

pub returns-in-11-clause-ok : goal.returns-in-11-clause-ok
returns-in-11-clause-ok c =
    arm_ok station-struct.takes station-tags_count-kind.kind.takes 11 _
    (sym c.field_number.ensures.number ∙ c.in-11.is) _ _ _ _
    (λ charge p h. (((h, refl), refl), refl)) _ _ _ _ _
    c.merge_count.result c.merge_count.ensures.ok

pub returns-in-11-clause-err : goal.returns-in-11-clause-err
returns-in-11-clause-err c =
    arm_refused station-struct.takes station-tags_count-kind.kind.takes 11 _
    (sym c.field_number.ensures.number ∙ c.in-11.is) _ _
    (λ charge z p h. (z.0.1.0, h.0.0.0)) _ _ _
    c.merge_count.result c.merge_count.ensures.err

pub returns-in-12-clause-ok : goal.returns-in-12-clause-ok
returns-in-12-clause-ok c =
    arm_ok station-struct.takes station-samples_count-kind.kind.takes 12 _
    (sym c.field_number.ensures.number ∙ c.in-12.is) _ _ _ _
    (λ charge p h. (((h, refl), refl), refl)) _ _ _ _ _
    c.merge_message_count.result c.merge_message_count.ensures.ok

pub returns-in-12-clause-err : goal.returns-in-12-clause-err
returns-in-12-clause-err c =
    arm_refused station-struct.takes station-samples_count-kind.kind.takes 12 _
    (sym c.field_number.ensures.number ∙ c.in-12.is) _ _
    (λ charge z p h. (z.0.1.1, h.0.0.0)) _ _ _
    c.merge_message_count.result c.merge_message_count.ensures.err

pub returns-in_default-clause-err : goal.returns-in_default-clause-err
returns-in_default-clause-err c =
    let n = tag_number c.args.tag in
    rest_refused station-struct-known.owns station-struct-known.takes passes n
    (λ p. neither _ _
    (neither _ _
    (neither _ _
    (neither _ _
    (unlike n 1 (search rules))
    (unlike n 2 (search rules)))
    (neither _ _
    (unlike n 3 (search rules))
    (unlike n 4 (search rules))))
    (neither _ _
    (neither _ _
    (unlike n 5 (search rules))
    (unlike n 6 (search rules)))
    (neither _ _
    (unlike n 7 (search rules))
    (neither _ _ (neither _ _ (unlike n 8 (search rules))
    (unlike n 9 (search rules)))
    (unlike n 10 (search rules))))))
    (neither _ _
    (unlike n 11 (search rules))
    (unlike n 12 (search rules))))
    _ _ _ _ c.pass_by.result c.pass_by.ensures.err
