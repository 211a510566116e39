use Rattle.wire_readings.proofs.ReadingInCShows.{reading-same}
use Rattle.wire_readings.specs.Reading.{reading-range}
use Rattle.wire_readings.specs.ReadingInC.{reading-written}
use Rattle.wire_readings.proofs.laws.reading_in_c_reads_back.Goals as goal

pub returns : goal.returns
returns c l m fs holds fits =
    let v = reading-written m fs in (
      (reading-range.charge_of v, c.reading_reads_back.ensures l v holds fits),
      reading-same m fs,
    )
