use Rattle.wire_structs.proofs.Shown.{decodes_back, not_decoded_back}
use Rattle.wire_readings.proofs.TotalsInCShows.{totals-shows}
use Rattle.wire_readings.specs.Totals.{totals-shape}
use Rattle.wire_readings.specs.TotalsInC.{totals-seen, totals-struct}
use Rattle.wire_readings.proofs.totals_in_c.read_totals.Goals as goal

pub returns-clause-ok : goal.returns-clause-ok
returns-clause-ok c = λ is.
    decodes_back totals-seen totals-shape.takes totals-struct.takes
    totals-shows.steps _ totals-shape.default _ _ (c.read_status.ensures.ok is)

pub returns-clause-err : goal.returns-clause-err
returns-clause-err c = λ is.
    not_decoded_back totals-seen totals-shape.takes totals-struct.takes
    totals-shows.steps _ totals-shape.default _ (c.read_status.ensures.err is)
