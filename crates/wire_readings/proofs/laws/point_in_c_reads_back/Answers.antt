use Rattle.wire_readings.proofs.PointInCShows.{point-same}
use Rattle.wire_readings.specs.Point.{point-range}
use Rattle.wire_readings.specs.PointInC.{point-written}
use Rattle.wire_readings.proofs.laws.point_in_c_reads_back.Goals as goal

pub returns : goal.returns
returns c l m fs holds fits =
    let v = point-written m fs in (
      (point-range.charge_of v, c.point_reads_back.ensures l v holds fits),
      point-same m fs,
    )
