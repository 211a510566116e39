use Rattle.wire_structs.proofs.Shown.{decodes_back, not_decoded_back}
use Rattle.wire_machines.proofs.PartInCShows.{part-shows}
use Rattle.wire_machines.specs.Part.{part-shape}
use Rattle.wire_machines.specs.PartInC.{part-seen, part-struct}
use Rattle.wire_machines.proofs.part_in_c.read_part.Goals as goal

pub returns-clause-ok : goal.returns-clause-ok
returns-clause-ok c = λ is.
    decodes_back part-seen part-shape.takes part-struct.takes
    part-shows.steps _ part-shape.default _ _ (c.read_status.ensures.ok is)

pub returns-clause-err : goal.returns-clause-err
returns-clause-err c = λ is.
    not_decoded_back part-seen part-shape.takes part-struct.takes
    part-shows.steps _ part-shape.default _ (c.read_status.ensures.err is)
