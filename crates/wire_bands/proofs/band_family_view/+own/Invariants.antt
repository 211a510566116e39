use Rattle.std.proofs.Common.{◌≡◌, map, take}
use Rattle.wire_bands.specs.BandFamily as family
use Rattle.wire_bands.proofs.band_family_view.+own.Given as goal

abbrev pub invariant-each_owned_player-loop-view : goal.invariant-each_owned_player-loop-view
invariant-each_owned_player-loop-view l =
    map family.player-value l.messages.items
    ≡ map family.player-view_value (take l.view-index l.views)

abbrev pub invariant-each_owned_band-loop-view : goal.invariant-each_owned_band-loop-view
invariant-each_owned_band-loop-view l =
    map family.band-value l.messages.items
    ≡ map family.band-view_value (take l.view-index l.views)
