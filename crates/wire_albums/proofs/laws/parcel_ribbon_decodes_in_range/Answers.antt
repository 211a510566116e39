use Rattle.wire_albums.specs.ParcelRibbonStays.{parcel_ribbon-stays}
use Rattle.wire_fields.specs.Stays.{decodes_in_range}
use Rattle.wire_albums.proofs.laws.parcel_ribbon_decodes_in_range.Goals as goal

pub returns : goal.returns
returns c = decodes_in_range c.grounds.ensures (parcel_ribbon-stays c.grounds.ensures)
