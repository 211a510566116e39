use Rattle.std.proofs.Common.{◌∙◌, ap, map, sym}
use Rattle.wire_fields.specs.Nest.{listed_row}
use Rattle.wire_bands.specs.BandFamily as family
use Rattle.wire_bands.specs.declared.player.Player.{fold_out-Player}
use Rattle.wire_bands.proofs.player.Player.row.Goals as goal

pub returns-in-0-clause-messages : goal.returns-in-0-clause-messages
returns-in-0-clause-messages c =
    rw (c.in-0.is, fold_out-Player family.Family-Tree family.Family-Tree family.band-one family.player-one c.args.self.now)
    (ap (map family.band-value) c.deref.ensures.value ∙ sym (listed_row _))
