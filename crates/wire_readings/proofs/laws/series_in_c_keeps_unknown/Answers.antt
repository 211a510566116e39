use Rattle.wire_structs.proofs.KeptUnknown.{keeps_unknown}
use Rattle.wire_readings.specs.Series.{series-known}
use Rattle.wire_readings.specs.SeriesInCLists.{series-levels}
use Rattle.wire_readings.proofs.laws.series_in_c_keeps_unknown.Goals as goal

pub returns : goal.returns
returns c = keeps_unknown series-known series-levels
