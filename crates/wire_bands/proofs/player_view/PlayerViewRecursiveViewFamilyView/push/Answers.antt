use Rattle.std.proofs.Common.{◌∙◌}
use Rattle.std.proofs.lemmas.Result.{on_ok_weaker}
use Rattle.wire_fields.specs.Nest.{listed_row, row_pushed}
use Rattle.wire_bands.specs.BandFamily as family
use Rattle.wire_bands.specs.declared.band_view.BandView.{BandView}
use Rattle.wire_bands.specs.declared.player_view.PlayerView.{PlayerView}
use Rattle.wire_bands.specs.declared.player_view.PlayerView as declared
use Rattle.wire_bands.specs.declared.band_view.BandView.TheFolds as folds
use Rattle.wire_bands.proofs.player_view.PlayerViewRecursiveViewFamilyView.push.Goals as goal

pub returns-in-0-Band-clause-ok : goal.returns-in-0-Band-clause-ok
returns-in-0-Band-clause-ok c =
    λ here many kind. on_ok_weaker c.push_message.result (λ pushed. rw (
      c.in-0-Band.is-0,
      c.in-0-Band.is-1,
      declared.fold_out-PlayerView family.Family-Tree family.Family-Tree family.band-view_one family.player-view_one c.args.self.now,
    ) (folds.fold-roll-PlayerView family.Family-Tree family.Family-Tree family.band-view_one family.player-view_one _
    ∙ row_pushed family.band-view_value 0
    (family.player-view_one
    (folds.map-PlayerView BandView PlayerView family.Family-Tree family.Family-Tree family.band-view_value family.player-view_value
    (declared.out-PlayerView c.args.self.now)))
    _ _ c.in-0-Band.message (listed_row _) pushed)) c.push_message.ensures.ok
