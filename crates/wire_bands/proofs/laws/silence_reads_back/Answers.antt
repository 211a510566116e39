use Rattle.wire_bands.specs.Silence.{silence-returned}
use Rattle.wire_fields.specs.Returned.{reads_back}
use Rattle.wire_bands.proofs.laws.silence_reads_back.Goals as goal

pub returns : goal.returns
returns c = reads_back (silence-returned c.grounds.ensures) c.text_decodes.ensures
