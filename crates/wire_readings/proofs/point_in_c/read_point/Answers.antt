use Rattle.wire_structs.proofs.Shown.{decodes_back, not_decoded_back}
use Rattle.wire_readings.proofs.PointInCShows.{point-shows}
use Rattle.wire_readings.specs.Point.{point-shape}
use Rattle.wire_readings.specs.PointInC.{point-seen, point-struct}
use Rattle.wire_readings.proofs.point_in_c.read_point.Goals as goal

pub returns-clause-ok : goal.returns-clause-ok
returns-clause-ok c = λ is.
    decodes_back point-seen point-shape.takes point-struct.takes
    point-shows.steps _ point-shape.default _ _ (c.read_status.ensures.ok is)

pub returns-clause-err : goal.returns-clause-err
returns-clause-err c = λ is.
    not_decoded_back point-seen point-shape.takes point-struct.takes
    point-shows.steps _ point-shape.default _ (c.read_status.ensures.err is)
