use Rattle.wire_albums.specs.ParcelShelf.{parcel_shelf-returned}
use Rattle.wire_fields.specs.Returned.{reads_back}
use Rattle.wire_albums.proofs.laws.parcel_shelf_reads_back.Goals as goal

pub returns : goal.returns
returns c = reads_back (parcel_shelf-returned c.grounds.ensures) c.text_decodes.ensures
