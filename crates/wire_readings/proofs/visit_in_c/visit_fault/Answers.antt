use Rattle.wire_structs.proofs.FirstRefused.{refused_back}
use Rattle.wire_structs.proofs.Shown.{decodes_back, not_decoded_back}
use Rattle.wire_readings.proofs.VisitInCShows.{visit-shows}
use Rattle.wire_readings.specs.Visit.{visit-shape}
use Rattle.wire_readings.specs.VisitInC.{visit-seen, visit-struct}
use Rattle.wire_readings.proofs.visit_in_c.visit_fault.Goals as goal

pub returns-clause-ok : goal.returns-clause-ok
returns-clause-ok c = λ is.
    let value = decodes_back visit-seen visit-shape.takes visit-struct.takes
    visit-shows.steps _ visit-shape.default _ _ (c.refused_status.ensures.ok is).1 in
    (value.0, value.1)

pub returns-clause-err : goal.returns-clause-err
returns-clause-err c = λ is.
    not_decoded_back visit-seen visit-shape.takes visit-struct.takes
    visit-shows.steps _ visit-shape.default _ (c.refused_status.ensures.err is)

pub returns-clause-place : goal.returns-clause-place
returns-clause-place c = λ is.
    refused_back visit-seen visit-shape.takes visit-struct.takes
    visit-shows.steps _ visit-shape.default _ _ (c.refused_status.ensures.refused is)
