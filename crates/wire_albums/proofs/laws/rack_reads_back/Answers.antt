use Rattle.wire_albums.specs.Rack.{rack-returned}
use Rattle.wire_fields.specs.Returned.{reads_back}
use Rattle.wire_albums.proofs.laws.rack_reads_back.Goals as goal

pub returns : goal.returns
returns c = reads_back (rack-returned c.grounds.ensures) c.text_decodes.ensures
