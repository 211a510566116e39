use Rattle.wire_kinds.specs.Maps.{maps-returned}
use Rattle.wire_fields.specs.Returned.{reads_back}
use Rattle.wire_kinds.proofs.laws.maps_reads_back.Goals as goal

pub returns : goal.returns
returns c = reads_back (maps-returned c.grounds.ensures) c.text_decodes.ensures
