use Rattle.wire_readings.specs.Series.{series-returned}
use Rattle.wire_fields.specs.Returned.{reads_back}
use Rattle.wire_readings.proofs.laws.series_reads_back.Goals as goal

pub returns : goal.returns
returns c = reads_back (series-returned c.grounds.ensures) c.text_decodes.ensures
