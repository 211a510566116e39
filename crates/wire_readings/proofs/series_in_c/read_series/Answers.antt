use Rattle.wire_structs.proofs.Shown.{decodes_back, not_decoded_back}
use Rattle.wire_readings.proofs.SeriesInCShows.{series-shows}
use Rattle.wire_readings.specs.Series.{series-shape}
use Rattle.wire_readings.specs.SeriesInC.{series-seen, series-struct}
use Rattle.wire_readings.proofs.series_in_c.read_series.Goals as goal

pub returns-clause-ok : goal.returns-clause-ok
returns-clause-ok c = λ is.
    decodes_back series-seen series-shape.takes series-struct.takes
    series-shows.steps _ series-shape.default _ _ (c.read_status.ensures.ok is)

pub returns-clause-err : goal.returns-clause-err
returns-clause-err c = λ is.
    not_decoded_back series-seen series-shape.takes series-struct.takes
    series-shows.steps _ series-shape.default _ (c.read_status.ensures.err is)
