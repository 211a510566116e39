use Rattle.wire_well_known.specs.Duration.{duration-returned}
use Rattle.wire_fields.specs.Returned.{reads_back}
use Rattle.wire_well_known.proofs.laws.duration_reads_back.Goals as goal

pub returns : goal.returns
returns c = reads_back (duration-returned c.grounds.ensures) c.text_decodes.ensures
