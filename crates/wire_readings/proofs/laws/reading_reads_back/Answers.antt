use Rattle.wire_readings.specs.Reading.{reading-returned}
use Rattle.wire_fields.specs.Returned.{reads_back}
use Rattle.wire_readings.proofs.laws.reading_reads_back.Goals as goal

pub returns : goal.returns
returns c = reads_back (reading-returned c.grounds.ensures) c.text_decodes.ensures
