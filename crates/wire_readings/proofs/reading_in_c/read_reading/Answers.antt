use Rattle.wire_structs.proofs.Shown.{decodes_back, not_decoded_back}
use Rattle.wire_readings.proofs.ReadingInCShows.{reading-shows}
use Rattle.wire_readings.specs.Reading.{reading-shape}
use Rattle.wire_readings.specs.ReadingInC.{reading-seen, reading-struct}
use Rattle.wire_readings.proofs.reading_in_c.read_reading.Goals as goal

pub returns-clause-ok : goal.returns-clause-ok
returns-clause-ok c = λ is.
    decodes_back reading-seen reading-shape.takes reading-struct.takes
    reading-shows.steps _ reading-shape.default _ _ (c.read_status.ensures.ok is)

pub returns-clause-err : goal.returns-clause-err
returns-clause-err c = λ is.
    not_decoded_back reading-seen reading-shape.takes reading-struct.takes
    reading-shows.steps _ reading-shape.default _ (c.read_status.ensures.err is)
