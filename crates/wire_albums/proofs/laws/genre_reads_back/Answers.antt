use Rattle.wire_albums.specs.Genre.{genre-returned}
use Rattle.wire_fields.specs.Returned.{reads_back}
use Rattle.wire_albums.proofs.laws.genre_reads_back.Goals as goal

pub returns : goal.returns
returns c = reads_back (genre-returned c.grounds.ensures) c.text_decodes.ensures
