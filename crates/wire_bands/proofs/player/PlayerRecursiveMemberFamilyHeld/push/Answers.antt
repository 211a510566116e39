use Rattle.std.proofs.Common.{◌∙◌}
use Rattle.std.proofs.lemmas.Result.{on_ok_weaker}
use Rattle.wire_fields.specs.Nest.{listed_row, row_pushed}
use Rattle.wire_bands.specs.BandFamily as family
use Rattle.wire_bands.specs.declared.band.Band.{Band}
use Rattle.wire_bands.specs.declared.player.Player.{Player}
use Rattle.wire_bands.specs.declared.player.Player.{out-Player, fold_out-Player}
use Rattle.wire_bands.specs.declared.band.Band.TheFolds.{fold-roll-Player}
use Rattle.wire_bands.specs.declared.band.Band.TheFolds.{map-Player}
use Rattle.wire_bands.proofs.player.PlayerRecursiveMemberFamilyHeld.push.Goals as goal

pub returns-in-0-Band-clause-ok : goal.returns-in-0-Band-clause-ok
returns-in-0-Band-clause-ok c =
    λ here many kind. on_ok_weaker c.push_message.result (λ pushed. rw (
      c.in-0-Band.is-0,
      c.in-0-Band.is-1,
      fold_out-Player family.Family-Tree family.Family-Tree family.band-one family.player-one c.args.self.now,
    ) (fold-roll-Player family.Family-Tree family.Family-Tree family.band-one family.player-one _
    ∙ row_pushed family.band-value 0
    (family.player-one (map-Player Band Player family.Family-Tree family.Family-Tree family.band-value family.player-value
    (out-Player c.args.self.now)))
    _ _ c.in-0-Band.message (listed_row _) pushed)) c.push_message.ensures.ok
