use Rattle.std.proofs.Common.{rules, sym, ◌∙◌}
use Rattle.wire_bands.specs.BandFamily.{player-known, player-leaf, player-name-kind}
use Rattle.wire_bands.specs.BandFamily.{player-since-kind}
use Rattle.wire_bands.specs.declared.player_view.PlayerView.{fold_out-PlayerView}
use Rattle.wire_codec.specs.TagView.{tag_number}
use Rattle.wire_fields.specs.Arms.{arm_err, neither, rest_err, unlike}
use Rattle.wire_fields.specs.Shape.{keeps}
use Rattle.wire_fields.specs.Sums.{second_err}
use Rattle.wire_bands.specs.BandFamily as family
use Rattle.wire_bands.proofs.player_view.PlayerViewRecursiveViewFamilyView.merge_leaf.Goals as goal

pub returns-in-1-clause-err : goal.returns-in-1-clause-err
returns-in-1-clause-err c =
    rw (fold_out-PlayerView family.Family-Tree family.Family-Tree family.band-view_one family.player-view_one c.args.self.now)
    (second_err _ player-leaf.takes _ _ _ _ _ _
    (arm_err player-leaf.takes player-name-kind.kind.takes 1 _
    (sym c.view_fields-field_number.ensures.number ∙ c.in-1.is) _ _
    (λ charge z p h. (z.0.0, h.0.0)) _ _ _
    c.view_fields-merge.result c.view_fields-merge.ensures.err))

pub returns-in-2-clause-err : goal.returns-in-2-clause-err
returns-in-2-clause-err c =
    rw (fold_out-PlayerView family.Family-Tree family.Family-Tree family.band-view_one family.player-view_one c.args.self.now)
    (second_err _ player-leaf.takes _ _ _ _ _ _
    (arm_err player-leaf.takes player-since-kind.kind.takes 2 _
    (sym c.view_fields-field_number.ensures.number ∙ c.in-2.is) _ _
    (λ charge z p h. (z.0.1, h.0.0)) _ _ _
    (c.view_fields-merge-in-2).result (c.view_fields-merge-in-2).ensures.err))

pub returns-in_default-clause-err : goal.returns-in_default-clause-err
returns-in_default-clause-err c =
    let n = tag_number c.args.tag in
    rw (fold_out-PlayerView family.Family-Tree family.Family-Tree family.band-view_one family.player-view_one c.args.self.now)
    (second_err _ player-leaf.takes _ _ _ _ _ _
    (rest_err player-known.owns player-known.takes keeps _
    (λ p. neither _ _ (unlike n 1 (search rules))
    (unlike n 2 (search rules)))
    _ _ _ _ c.view_fields-keep_span.result c.view_fields-keep_span.ensures.err))
