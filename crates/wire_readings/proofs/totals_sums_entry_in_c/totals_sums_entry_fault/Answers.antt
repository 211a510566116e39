use Rattle.wire_structs.proofs.FirstRefused.{refused_back}
use Rattle.wire_structs.proofs.Shown.{decodes_back, not_decoded_back}
use Rattle.wire_readings.proofs.TotalsSumsEntryInCShows.{totals_sums_entry-shows}
use Rattle.wire_readings.specs.TotalsSumsEntry.{totals_sums_entry-shape}
use Rattle.wire_readings.specs.TotalsSumsEntryInC.{totals_sums_entry-seen, totals_sums_entry-struct}
use Rattle.wire_readings.proofs.totals_sums_entry_in_c.totals_sums_entry_fault.Goals as goal

pub returns-clause-ok : goal.returns-clause-ok
returns-clause-ok c = λ is.
    let value = decodes_back totals_sums_entry-seen totals_sums_entry-shape.takes totals_sums_entry-struct.takes
    totals_sums_entry-shows.steps _ totals_sums_entry-shape.default _ _ (c.refused_status.ensures.ok is).1 in
    (value.0, value.1)

pub returns-clause-err : goal.returns-clause-err
returns-clause-err c = λ is.
    not_decoded_back totals_sums_entry-seen totals_sums_entry-shape.takes totals_sums_entry-struct.takes
    totals_sums_entry-shows.steps _ totals_sums_entry-shape.default _ (c.refused_status.ensures.err is)

pub returns-clause-place : goal.returns-clause-place
returns-clause-place c = λ is.
    refused_back totals_sums_entry-seen totals_sums_entry-shape.takes totals_sums_entry-struct.takes
    totals_sums_entry-shows.steps _ totals_sums_entry-shape.default _ _ (c.refused_status.ensures.refused is)
