use Rattle.wire_structs.proofs.FirstRefused.{refused_back}
use Rattle.wire_structs.proofs.Shown.{decodes_back, not_decoded_back}
use Rattle.wire_machines.proofs.PartInCShows.{part-shows}
use Rattle.wire_machines.specs.Part.{part-shape}
use Rattle.wire_machines.specs.PartInC.{part-seen, part-struct}
use Rattle.wire_machines.proofs.part_in_c.part_fault.Goals as goal

pub returns-clause-ok : goal.returns-clause-ok
returns-clause-ok c = λ is.
    let value = decodes_back part-seen part-shape.takes part-struct.takes
    part-shows.steps _ part-shape.default _ _ (c.refused_status.ensures.ok is).1 in
    (value.0, value.1)

pub returns-clause-err : goal.returns-clause-err
returns-clause-err c = λ is.
    not_decoded_back part-seen part-shape.takes part-struct.takes
    part-shows.steps _ part-shape.default _ (c.refused_status.ensures.err is)

pub returns-clause-place : goal.returns-clause-place
returns-clause-place c = λ is.
    refused_back part-seen part-shape.takes part-struct.takes
    part-shows.steps _ part-shape.default _ _ (c.refused_status.ensures.refused is)
