use Rattle.wire_readings.specs.Totals.{totals-returned}
use Rattle.wire_fields.specs.Returned.{reads_back}
use Rattle.wire_readings.proofs.laws.totals_reads_back.Goals as goal

pub returns : goal.returns
returns c = reads_back (totals-returned c.grounds.ensures) c.text_decodes.ensures
