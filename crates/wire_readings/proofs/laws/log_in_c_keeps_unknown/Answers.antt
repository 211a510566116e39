use Rattle.wire_structs.proofs.KeptUnknown.{keeps_unknown}
use Rattle.wire_readings.specs.Log.{log-known}
use Rattle.wire_readings.specs.LogInCLists.{log-levels}
use Rattle.wire_readings.proofs.laws.log_in_c_keeps_unknown.Goals as goal

pub returns : goal.returns
returns c = keeps_unknown log-known log-levels
