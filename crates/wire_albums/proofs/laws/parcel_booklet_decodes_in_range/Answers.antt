use Rattle.wire_albums.specs.ParcelBookletStays.{parcel_booklet-stays}
use Rattle.wire_fields.specs.Stays.{decodes_in_range}
use Rattle.wire_albums.proofs.laws.parcel_booklet_decodes_in_range.Goals as goal

pub returns : goal.returns
returns c = decodes_in_range c.grounds.ensures (parcel_booklet-stays c.grounds.ensures)
