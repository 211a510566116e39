use Rattle.wire_albums.specs.ParcelBooklet.{parcel_booklet-returned}
use Rattle.wire_fields.specs.Returned.{reads_back}
use Rattle.wire_albums.proofs.laws.parcel_booklet_reads_back.Goals as goal

pub returns : goal.returns
returns c = reads_back (parcel_booklet-returned c.grounds.ensures) c.text_decodes.ensures
