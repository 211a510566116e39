use Rattle.wire_bands.specs.Programme.{programme-returned}
use Rattle.wire_fields.specs.Returned.{reads_back}
use Rattle.wire_bands.proofs.laws.programme_reads_back.Goals as goal

pub returns : goal.returns
returns c = reads_back (programme-returned c.grounds.ensures) c.text_decodes.ensures
