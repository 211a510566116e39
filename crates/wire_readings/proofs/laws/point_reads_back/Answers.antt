use Rattle.wire_readings.specs.Point.{point-returned}
use Rattle.wire_fields.specs.Returned.{reads_back}
use Rattle.wire_readings.proofs.laws.point_reads_back.Goals as goal

pub returns : goal.returns
returns c = reads_back (point-returned c.grounds.ensures) c.text_decodes.ensures
