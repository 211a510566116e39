use Rattle.wire_readings.proofs.VisitInCShows.{visit-same}
use Rattle.wire_readings.specs.Visit.{visit-range}
use Rattle.wire_readings.specs.VisitInC.{visit-written}
use Rattle.wire_readings.proofs.laws.visit_in_c_reads_back.Goals as goal

pub returns : goal.returns
returns c l m fs holds fits =
    let v = visit-written m fs in (
      (visit-range.charge_of v, c.visit_reads_back.ensures l v holds fits),
      visit-same m fs,
    )
