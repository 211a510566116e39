use Rattle.wire_bands.specs.Release.{release-returned}
use Rattle.wire_fields.specs.Returned.{reads_back}
use Rattle.wire_bands.proofs.laws.release_reads_back.Goals as goal

pub returns : goal.returns
returns c = reads_back (release-returned c.grounds.ensures) c.text_decodes.ensures
