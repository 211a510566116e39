use Rattle.std.proofs.Common.{sym}
use Rattle.wire_bands.proofs.band_view.BandViewMessageView.merge_field.Goals as goal

pub returns-in-Band-clause-err : goal.returns-in-Band-clause-err
returns-in-Band-clause-err c =
    rw (sym c.replace.ensures.value) c.merge_held-merged.ensures.err
