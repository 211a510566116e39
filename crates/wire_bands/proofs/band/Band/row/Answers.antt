use Rattle.std.proofs.Common.{◌∙◌, ap, map, sym}
use Rattle.wire_fields.specs.Nest.{listed_row}
use Rattle.wire_bands.specs.BandFamily as family
use Rattle.wire_bands.specs.declared.band.Band.{fold_out-Band}
use Rattle.wire_bands.proofs.band.Band.row.Goals as goal

pub returns-in-0-clause-messages : goal.returns-in-0-clause-messages
returns-in-0-clause-messages c =
    rw (c.in-0.is, fold_out-Band family.Family-Tree family.Family-Tree family.band-one family.player-one c.args.self.now)
    (ap (map family.player-value) c.deref.ensures.value ∙ sym (listed_row _))
