use Rattle.wire_albums.specs.Album.{album-returned}
use Rattle.wire_fields.specs.Returned.{reads_back}
use Rattle.wire_albums.proofs.laws.album_reads_back.Goals as goal

pub returns : goal.returns
returns c = reads_back (album-returned c.grounds.ensures) c.text_decodes.ensures
