use Rattle.wire_bands.specs.Cue.{cue-returned}
use Rattle.wire_fields.specs.Returned.{reads_back}
use Rattle.wire_bands.proofs.laws.cue_reads_back.Goals as goal

pub returns : goal.returns
returns c = reads_back (cue-returned c.grounds.ensures) c.text_decodes.ensures
