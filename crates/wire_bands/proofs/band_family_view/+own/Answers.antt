use Rattle.std.proofs.Common.{refl, sym, ◌∙◌}
use Rattle.wire_bands.specs.declared.band.Band.{Band, Band-F}
use Rattle.wire_bands.specs.declared.band.Band.TheFolds.{fold-roll-Band, fold-roll-Player}
use Rattle.wire_bands.specs.declared.band_view.BandView.{fold_out-BandView, out-BandView}
use Rattle.wire_bands.specs.declared.player.Player.{Player, Player-F}
use Rattle.wire_bands.specs.declared.player_view.PlayerView.{fold_out-PlayerView}
use Rattle.wire_bands.specs.BandFamily as family
use Rattle.wire_bands.proofs.band_family_view.+own.Goals as goal

pub owned_band-returns-clause-ok : goal.owned_band-returns-clause-ok
owned_band-returns-clause-ok t c =
    let made : Band-F Band Player = record {
      name = c.in_ok-own_name.own_name;
      players = c.in_ok-own_players.own_players;
      singer = c.in_ok-own_singer.own_singer;
      unknown = c.in_ok-own_unknown.own_unknown;
    } in
    fold-roll-Band family.Family-Tree family.Family-Tree family.band-one family.player-one made
    ∙ rw (
      c.in_ok-own_name.ensures.ok,
      c.in_ok-own_players.ensures.ok,
      c.deref.ensures.value,
      family.band-singer-row made made.singer refl,
      c.in_ok-own_singer.ensures.ok,
      family.band-singer-view_row (out-BandView c.args.view.now)
          (out-BandView c.args.view.now).singer refl,
      c.in_ok-own_unknown.ensures.ok,
      (c.deref-2).ensures.value,
    ) refl
    ∙ sym (fold_out-BandView family.Family-Tree family.Family-Tree family.band-view_one family.player-view_one c.args.view.now)

pub owned_player-returns-clause-ok : goal.owned_player-returns-clause-ok
owned_player-returns-clause-ok t c =
    let made : Player-F Band Player = record {
      name = c.in_ok-own_name.own_name;
      since = c.in_ok-own_since.own_since;
      bands = c.in_ok-own_bands.own_bands;
      unknown = c.in_ok-own_unknown.own_unknown;
    } in
    fold-roll-Player family.Family-Tree family.Family-Tree family.band-one family.player-one made
    ∙ rw (
      c.in_ok-own_name.ensures.ok,
      c.in_ok-own_since.ensures.ok,
      c.in_ok-own_bands.ensures.ok,
      c.deref.ensures.value,
      c.in_ok-own_unknown.ensures.ok,
      (c.deref-2).ensures.value,
    ) refl
    ∙ sym (fold_out-PlayerView family.Family-Tree family.Family-Tree family.band-view_one family.player-view_one c.args.view.now)
