use Rattle.wire_bands.specs.Band.{band-returned}
use Rattle.wire_fields.specs.Returned.{reads_back}
use Rattle.wire_bands.proofs.laws.band_reads_back.Goals as goal

pub returns : goal.returns
returns c = reads_back (band-returned c.grounds.ensures) c.text_decodes.ensures
