use Rattle.wire_stations.proofs.SeenShapes.{station-shows}
use Rattle.wire_stations.specs.Station.{station-seen, station-shape, station-struct}
use Rattle.wire_structs.proofs.Shown.{decodes_back, not_decoded_back}
use Rattle.wire_stations.proofs.read.read_station.Goals as goal

pub returns-clause-ok : goal.returns-clause-ok
returns-clause-ok c = λ is.
    decodes_back station-seen station-shape.takes station-struct.takes station-shows.steps _
    station-shape.default _ _ (c.read_status.ensures.ok is)

pub returns-clause-err : goal.returns-clause-err
returns-clause-err c = λ is.
    not_decoded_back station-seen station-shape.takes station-struct.takes station-shows.steps _
    station-shape.default _ (c.read_status.ensures.err is)
