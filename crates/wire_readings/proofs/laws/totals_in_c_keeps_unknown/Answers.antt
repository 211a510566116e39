use Rattle.wire_structs.proofs.KeptUnknown.{keeps_unknown}
use Rattle.wire_readings.specs.Totals.{totals-known}
use Rattle.wire_readings.specs.TotalsInCLists.{totals-levels}
use Rattle.wire_readings.proofs.laws.totals_in_c_keeps_unknown.Goals as goal

pub returns : goal.returns
returns c = keeps_unknown totals-known totals-levels
