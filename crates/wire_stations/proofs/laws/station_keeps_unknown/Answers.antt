use Rattle.wire_stations.specs.Station.{station-known}
use Rattle.wire_stations.specs.StationLists.{station-levels}
use Rattle.wire_structs.proofs.KeptUnknown.{keeps_unknown}
use Rattle.wire_stations.proofs.laws.station_keeps_unknown.Goals as goal

pub returns : goal.returns
returns c = keeps_unknown station-known station-levels
