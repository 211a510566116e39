use Rattle.wire_albums.specs.Track.{track-returned}
use Rattle.wire_fields.specs.Returned.{reads_back}
use Rattle.wire_albums.proofs.laws.track_reads_back.Goals as goal

pub returns : goal.returns
returns c = reads_back (track-returned c.grounds.ensures) c.text_decodes.ensures
