use Rattle.std.proofs.Common.{refl}
use Rattle.wire_base.proofs.Rooms.{put_behind_filled}
use Rattle.wire_base.proofs.room.sink.RoomEncodeSink.put_fixed32.Goals as goal

pub returns : goal.returns
returns c =
    put_behind_filled _ _ _ _ _ _ _ _ (c.if-not-fits.ensures.fits refl)
    c.fill_varint.ensures.held c.put_u32_le.ensures
