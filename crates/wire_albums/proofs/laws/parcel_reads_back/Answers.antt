use Rattle.wire_albums.specs.Parcel.{parcel-returned}
use Rattle.wire_fields.specs.Returned.{reads_back}
use Rattle.wire_albums.proofs.laws.parcel_reads_back.Goals as goal

pub returns : goal.returns
returns c = reads_back (parcel-returned c.grounds.ensures) c.text_decodes.ensures
