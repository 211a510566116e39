use Rattle.wire_albums.specs.ParcelRibbon.{parcel_ribbon-returned}
use Rattle.wire_fields.specs.Returned.{reads_back}
use Rattle.wire_albums.proofs.laws.parcel_ribbon_reads_back.Goals as goal

pub returns : goal.returns
returns c = reads_back (parcel_ribbon-returned c.grounds.ensures) c.text_decodes.ensures
