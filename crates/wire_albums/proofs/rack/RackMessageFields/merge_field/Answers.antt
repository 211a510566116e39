use Rattle.std.proofs.Common.{refl, rules, sym, ◌∙◌}
use Rattle.wire_albums.specs.Rack.{rack-backs-kind, rack-fronts-kind, rack-known, rack-shape}
use Rattle.wire_albums.specs.Rack.{rack-value}
use Rattle.wire_albums.specs.RackSleeve.{rack_sleeve-shape, worn-of-rack_sleeve-closed}
use Rattle.wire_codec.specs.TagView.{tag_number}
use Rattle.wire_fields.specs.Arms.{arm_err, from_last, neither, unlike}
use Rattle.wire_fields.specs.Leaving.{keeps_beside}
use Rattle.wire_fields.specs.Shape.{keeps}
use Rattle.wire_albums.proofs.rack.RackMessageFields.merge_field.Goals as goal

pub returns-in-1-clause-err : goal.returns-in-1-clause-err
returns-in-1-clause-err g c =
    arm_err rack-shape.takes rack-fronts-kind.takes 1 _
    (sym c.fields-field_number.ensures.number ∙ c.in-1.is) _ _
    (λ charge z p h. ((z.0.0.0, z.1), h.0.0)) _ _ _
    c.fields-merge_closed_each.result c.fields-merge_closed_each.ensures.err

pub returns-in-2-clause-err : goal.returns-in-2-clause-err
returns-in-2-clause-err g c =
    arm_err rack-shape.takes rack-backs-kind.takes 2 _
    (sym c.fields-field_number.ensures.number ∙ c.in-2.is) _ _
    (λ charge z p h. ((z.0.0.1, z.1), h.0.0)) _ _ _
    (c.fields-merge_closed_each-in-2).result (c.fields-merge_closed_each-in-2).ensures.err

pub returns-in-3-clause-err : goal.returns-in-3-clause-err
returns-in-3-clause-err g c =
    arm_err rack-shape.takes rack_sleeve-shape.takes 3 _
    (sym c.fields-field_number.ensures.number ∙ c.in-3.is) _ _
    (λ charge z p h. (z.0.1, h.0.0)) _ _ _
    c.fields-merge.result c.fields-merge.ensures.err

pub returns-in-4-clause-err : goal.returns-in-4-clause-err
returns-in-4-clause-err g c =
    arm_err rack-shape.takes worn-of-rack_sleeve-closed 4 _
    (sym c.fields-field_number.ensures.number ∙ c.in-4.is) _ _
    (λ charge z p h. ((z.0.1, z.1), h.0)) _ _ _
    c.fields-set_or_keep_worn.result c.fields-set_or_keep_worn.ensures.err

pub returns-in_default-clause-err : goal.returns-in_default-clause-err
returns-in_default-clause-err g c =
    let n = tag_number c.args.tag in
    arm_err rack-shape.takes keeps n n refl _ _
    (λ charge z p h. (
      z.1,
      (from_last rack-known.owns rack-known.takes keeps_beside n
          (λ p. neither _ _ (neither _ _ (unlike n 1 (search rules))
          (unlike n 2 (search rules)))
          (neither _ _ (unlike n 3 (search rules))
          (unlike n 4 (search rules))))
          (rack-value c.args.self.now) z charge p h).0,
    ))
    _ _ _ c.fields-keep.result c.fields-keep.ensures.err
