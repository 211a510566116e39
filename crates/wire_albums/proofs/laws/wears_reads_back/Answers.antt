use Rattle.wire_albums.specs.Wears.{wears-returned}
use Rattle.wire_fields.specs.Returned.{reads_back}
use Rattle.wire_albums.proofs.laws.wears_reads_back.Goals as goal

pub returns : goal.returns
returns c =
    λ charges. reads_back (wears-returned charges c.grounds.ensures) c.text_decodes.ensures
