use Rattle.wire_albums.specs.ParcelShelfStays.{parcel_shelf-stays}
use Rattle.wire_fields.specs.Stays.{decodes_in_range}
use Rattle.wire_albums.proofs.laws.parcel_shelf_decodes_in_range.Goals as goal

pub returns : goal.returns
returns c = decodes_in_range c.grounds.ensures (parcel_shelf-stays c.grounds.ensures)
