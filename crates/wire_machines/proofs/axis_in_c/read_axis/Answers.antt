use Rattle.wire_structs.proofs.Shown.{decodes_back, not_decoded_back}
use Rattle.wire_machines.proofs.AxisInCShows.{axis-shows}
use Rattle.wire_machines.specs.Axis.{axis-shape}
use Rattle.wire_machines.specs.AxisInC.{axis-seen, axis-struct}
use Rattle.wire_machines.proofs.axis_in_c.read_axis.Goals as goal

pub returns-clause-ok : goal.returns-clause-ok
returns-clause-ok c = λ is.
    decodes_back axis-seen axis-shape.takes axis-struct.takes
    axis-shows.steps _ axis-shape.default _ _ (c.read_status.ensures.ok is)

pub returns-clause-err : goal.returns-clause-err
returns-clause-err c = λ is.
    not_decoded_back axis-seen axis-shape.takes axis-struct.takes
    axis-shows.steps _ axis-shape.default _ (c.read_status.ensures.err is)
