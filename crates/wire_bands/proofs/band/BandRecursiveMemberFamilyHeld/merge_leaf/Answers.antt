use Rattle.std.proofs.Common.{rules, sym, ◌∙◌}
use Rattle.wire_bands.specs.BandFamily.{band-known, band-leaf, band-name-kind}
use Rattle.wire_bands.specs.declared.band.Band.{fold_out-Band}
use Rattle.wire_codec.specs.TagView.{tag_number}
use Rattle.wire_fields.specs.Arms.{arm_err, rest_err, unlike}
use Rattle.wire_fields.specs.Shape.{keeps}
use Rattle.wire_fields.specs.Sums.{first_err}
use Rattle.wire_bands.specs.BandFamily as family
use Rattle.wire_bands.proofs.band.BandRecursiveMemberFamilyHeld.merge_leaf.Goals as goal

pub returns-in-1-clause-err : goal.returns-in-1-clause-err
returns-in-1-clause-err g c =
    rw (fold_out-Band family.Family-Tree family.Family-Tree family.band-one family.player-one c.args.self.now)
    (first_err _ band-leaf.takes _ _ _ _ _ _
    (arm_err band-leaf.takes band-name-kind.kind.takes 1 _
    (sym c.field_number.ensures.number ∙ c.in-1.is) _ _
    (λ charge z p h. (z.0, h.0)) _ _ _
    c.merge.result c.merge.ensures.err))

pub returns-in_default-clause-err : goal.returns-in_default-clause-err
returns-in_default-clause-err g c =
    let n = tag_number c.args.tag in
    rw (fold_out-Band family.Family-Tree family.Family-Tree family.band-one family.player-one c.args.self.now)
    (first_err _ band-leaf.takes _ _ _ _ _ _
    (rest_err band-known.owns band-known.takes keeps _
    (λ p. unlike n 1 (search rules))
    _ _ _ _ c.keep.result c.keep.ensures.err))
