use Rattle.wire_well_known.specs.Empty.{empty-returned}
use Rattle.wire_fields.specs.Returned.{reads_back}
use Rattle.wire_well_known.proofs.laws.empty_reads_back.Goals as goal

pub returns : goal.returns
returns c = reads_back (empty-returned c.grounds.ensures) c.text_decodes.ensures
