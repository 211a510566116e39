use Rattle.std.proofs.Common.{◌∙◌}
use Rattle.std.proofs.lemmas.Result.{on_ok_weaker}
use Rattle.wire_fields.specs.Nest.{listed_row, row_pushed}
use Rattle.wire_bands.specs.BandFamily as family
use Rattle.wire_bands.specs.declared.band.Band.{Band}
use Rattle.wire_bands.specs.declared.player.Player.{Player}
use Rattle.wire_bands.specs.declared.band.Band.{out-Band, fold_out-Band}
use Rattle.wire_bands.specs.declared.band.Band.TheFolds.{fold-roll-Band}
use Rattle.wire_bands.specs.declared.band.Band.TheFolds.{map-Band}
use Rattle.wire_bands.proofs.band.BandRecursiveMemberFamilyHeld.push.Goals as goal

pub returns-in-0-Player-clause-ok : goal.returns-in-0-Player-clause-ok
returns-in-0-Player-clause-ok c =
    λ here many kind. on_ok_weaker c.push_message.result (λ pushed. rw (
      c.in-0-Player.is-0,
      c.in-0-Player.is-1,
      fold_out-Band family.Family-Tree family.Family-Tree family.band-one family.player-one c.args.self.now,
    ) (fold-roll-Band family.Family-Tree family.Family-Tree family.band-one family.player-one _
    ∙ row_pushed family.player-value 0
    (family.band-one (map-Band Band Player family.Family-Tree family.Family-Tree family.band-value family.player-value
    (out-Band c.args.self.now)))
    _ _ c.in-0-Player.message (listed_row _) pushed)) c.push_message.ensures.ok
