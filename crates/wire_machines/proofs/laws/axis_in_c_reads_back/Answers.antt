use Rattle.wire_machines.proofs.AxisInCShows.{axis-same}
use Rattle.wire_machines.specs.Axis.{axis-range}
use Rattle.wire_machines.specs.AxisInC.{axis-written}
use Rattle.wire_machines.proofs.laws.axis_in_c_reads_back.Goals as goal

pub returns : goal.returns
returns c l m fs holds fits =
    let v = axis-written m fs in (
      (axis-range.charge_of v, c.axis_reads_back.ensures l v holds fits),
      axis-same m fs,
    )
